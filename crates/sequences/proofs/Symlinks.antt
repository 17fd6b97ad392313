-- A followed symlink, said of the calls, and the ninth.
use mathlib.Core.Path.{◌≡◌, refl, sym, ap, ◌∙◌, subst}
use mathlib.Core.Bool.{false}
use mathlib.Core.List.{List, [], ◌∷◌, ◌++◌}
use mathlib.Core.Logic.{◌≢◌}
use Prim.Native.Nat.{ℕ, zero, suc, ◌-◌}
use native.Mathlib.Omega.{arith}
use lib.Dec.{eqb}
use lib.ListN.{length}
use borrow.Author.Tests.{eqb-false}
use Rattle.base.specs.Out.{Out, done, refused, bind, ensure, answer, Ok, went, said}
use Rattle.std.specs.Prelude.{Some}
use Rattle.structs.specs.declared.DiskINode.{DiskINode}
use Rattle.table.specs.declared.Table.{Table}
use Rattle.table.specs.declared.Handle.{Handle}
use Rattle.table.specs.declared.Added.{Added}
use Rattle.table.specs.Table.{live_row, can_hold}
use Rattle.sefs.specs.State.{Fs}
use Rattle.sefs.specs.Ask.{start}
use Rattle.sefs.specs.Open.{hold_node}
use Rattle.sefs_laws.proofs.Says.{Says, says_then, says-ensure, says-pick, says-done}
use Rattle.sefs_laws.proofs.Handles.{live-owns, handle-done}
use Rattle.walk.specs.Walk.{slash, good_text, from_root, parts_of, Spot, is_link, Way, ended, met, along, target_of, enter, Walked, or_stop, most_links, walk_on, walk_text, walk_in, hold_end, call_walk}
use Rattle.walk.specs.Symlinks.{FollowsText, FollowsRoot, FollowsName}
use Rattle.walk.proofs.Ways.{walk_is}
use Rattle.walk.proofs.Walks.{walk-stop, walk_end, walk_loop, walk-unread, walk-bad, walk-follow}
use Rattle.walk.proofs.Symlinks.{follows-text, follows-root, follows-name}
use Rattle.image.proofs.Handles.{admitted, formed}
use Rattle.sequences.specs.Pairs.{Pair, Passed}
use Rattle.sequences.specs.Chains.{row_spot}
use Rattle.sequences.specs.Symlinks.{FollowsCall, FollowsRootCall, FollowsNameCall, Trail, no-link, one_link, OneMore, MeetsNinth, NinthLink, NinthLinkCall}
use Rattle.sequences.proofs.Passing.{allowed}
use Rattle.sequences.proofs.Reasons.{says-hold, says-root-look, says-part, says-target}

-- ---- a link is followed

-- the call from a live handle: the walk of its path from the handle's row, and the hold
walk-text : (x : Pair) (w : ℕ) (h : Handle) (i room : ℕ) (path : List ℕ) → Passed x → live_row x.table w h ≡ Some i
    → call_walk x.arena x.table w h path room ≡ hold_end x.arena x.table w (walk_text (start x.arena x.table) room most_links [] (row_spot x.table i) path)
unfolding call_walk walk_in
walk-text x w h i room path y live =
    let A = allowed x y in
    rw (admitted x.arena x.table A, handle-done x.table w h i (live-owns x.table w h i (formed x.arena x.table A) live)) refl

pub follows-call : FollowsCall
unfolding FollowsCall FollowsText
follows-call x w h i room at p l q target y live F L n g good lone =
    walk-text x w h i room (p ++ (l ++ (slash ∷ q))) y live
    ∙ ap (hold_end x.arena x.table w) (follows-text (start x.arena x.table) room (most_links - 1) [] (row_spot x.table i) at p l q target F L n g good lone)

pub follows-root-call : FollowsRootCall
unfolding FollowsRootCall FollowsRoot
follows-root-call x w h i room at p l q y live F L n g =
    walk-text x w h i room (p ++ (l ++ (slash ∷ q))) y live
    ∙ ap (hold_end x.arena x.table w) (follows-root (start x.arena x.table) room (most_links - 1) [] (row_spot x.table i) at p l q F L n g)

pub follows-name-call : FollowsNameCall
unfolding FollowsNameCall FollowsName
follows-name-call x w h i room at p l target y live F L n g =
    walk-text x w h i room (p ++ l) y live
    ∙ ap (hold_end x.arena x.table w) (follows-name (start x.arena x.table) room (most_links - 1) [] (row_spot x.table i) at p l target F L n g)

-- ---- the ninth link

abbrev Not23 : ℕ → Type 0
Not23 n = n ≢ 23

no : (n : ℕ) → eqb n 23 ≡ false → Not23 n
no n e = eqb-false n 23 e

-- a step that is refused with 23 says no other reason
not-said : {A : Type 0} {o : Out A} {n : ℕ} {x : Out Spot} → Says Not23 o → o ≡ refused n → x ≡ refused n → x ≡ refused 23 → ⊥
not-said (went _) e q z = let u : ◌≡◌ {A = ℕ} 0 1 = cc in omega arith
not-said (said r) e q z = r (ap answer e ∙ (sym (ap answer q) ∙ ap answer z))

end_of : {x y : Walked Spot} → x ≡ y → x.end ≡ y.end
end_of e = ap (λ (w : Walked Spot). w.end) e

module _ (a : List ℕ) (t : Table) where
  abbrev s : Fs
  s = start a t

  -- no step of a walk gives 23
  says-along : (at : Spot) (ps : List (List ℕ)) → Says Not23 (along (start a t) at ps)
  unfolding along
  says-along at [] = says-done
  says-along at (p ∷ ps) = says_then (says-part (no 7 refl) (no 10 refl) (no 8 refl) (no 11 refl) (no 19 refl) a t at.rec p) λ n. says-pick (is_link n.rec) _ _ says-done (says-along n ps)

  says-enter : (at : Spot) (l : List ℕ) → Says Not23 (enter (start a t) at l)
  unfolding enter
  says-enter at l = says_then (says-ensure (good_text l) 5 (no 5 refl)) λ _. says-pick (from_root l) _ _ (says-root-look (no 19 refl) a t) says-done

  module _ (room : ℕ) where
    -- where k links may still be met, it is that one more is
    abbrev Loops : ℕ → Type 0
    Loops k = (b : List ℕ) (at : Spot) (ps : List (List ℕ)) → (walk_on (start a t) room k b at ps).end ≡ refused 23 → OneMore (start a t) room k b at ps

    module _ (k : ℕ) (later : Loops k) (b : List ℕ) (at : Spot) (ps : List (List ℕ)) (z : (walk_on (start a t) room (suc k) b at ps).end ≡ refused 23)
        (f : Spot) (r : DiskINode) (qs : List (List ℕ)) (e : along (start a t) at ps ≡ done (met f r qs)) where
      by-enter : (l : List ℕ) → target_of a r (room - length b) ≡ done l → (o : Out Spot) → enter (start a t) f l ≡ o → OneMore (start a t) room (suc k) b at ps
      by-enter l q (refused n) g = absurd (not-said (says-enter f l) g (end_of (walk-bad s room b at ps e k q g)) z)
      by-enter l q (done to) g =
          let m = later (b ++ l) to (parts_of l ++ qs) (sym (end_of (walk-follow s room b at ps e k q g)) ∙ z) in
          record { targets = m.targets; spot = m.spot; parts = m.parts; trail = one_link e q g m.trail; folder = m.folder; rec = m.rec; rest = m.rest; meets = m.meets }

      by-target : (o : Out (List ℕ)) → target_of a r (room - length b) ≡ o → OneMore (start a t) room (suc k) b at ps
      by-target (refused n) q = absurd (not-said (says-target (no 20 refl) (no 19 refl) a r (room - length b)) q (end_of (walk-unread s room b at ps e k q)) z)
      by-target (done l) q = by-enter l q (enter s f l) refl

    by_way : (k : ℕ) (b : List ℕ) (at : Spot) (ps : List (List ℕ)) → (walk_on (start a t) room k b at ps).end ≡ refused 23
        → ((f : Spot) (r : DiskINode) (qs : List (List ℕ)) → along (start a t) at ps ≡ done (met f r qs) → OneMore (start a t) room k b at ps)
        → (o : Out Way) → along (start a t) at ps ≡ o → OneMore (start a t) room k b at ps
    by_way k b at ps z h (refused n) e = absurd (not-said (says-along at ps) e (end_of (walk-stop s room k b at ps e)) z)
    by_way k b at ps z h (done (ended to)) e = let q = sym (end_of (walk_end s room k b at ps e)) ∙ z in absurd (let u : ◌≡◌ {A = ℕ} 0 1 = cc in omega arith)
    by_way k b at ps z h (done (met f r qs)) e = h f r qs e

    loops : (k : ℕ) (b : List ℕ) (at : Spot) (ps : List (List ℕ)) → (walk_on (start a t) room k b at ps).end ≡ refused 23 → OneMore (start a t) room k b at ps
    loops zero b at ps z =
        by_way 0 b at ps z (λ f r qs e. record { targets = b; spot = at; parts = ps; trail = no-link; folder = f; rec = r; rest = qs; meets = e }) (along s at ps) refl
    loops (suc k) b at ps z = by_way (suc k) b at ps z (λ f r qs e. by-target k (loops k) b at ps z f r qs e (target_of a r (room - length b)) refl) (along s at ps) refl

    -- and where there is one more, it is 23
    looped : {k : ℕ} {b c : List ℕ} {at end : Spot} {ps rs : List (List ℕ)} {f : Spot} {r : DiskINode} {qs : List (List ℕ)}
        → Trail (start a t) room k b at ps c end rs → along (start a t) end rs ≡ done (met f r qs) → (walk_on (start a t) room k b at ps).end ≡ refused 23
    looped (no-link {b = b} {at = at} {ps = ps}) e = end_of (walk_loop s room b at ps e)
    looped (one_link {k = k} {b = b} {at = at} {ps = ps} m q g rest) e = end_of (walk-follow s room b at ps m k q g) ∙ looped rest e

pub ninth-link : NinthLink
unfolding NinthLink walk_in
ninth-link a t at path room = (to-ninth (enter (start a t) at path) refl, from-ninth)
  where
    to-ninth : (o : Out Spot) → enter (start a t) at path ≡ o → (or_stop [] most_links o (λ to. walk_on (start a t) room most_links [] to (parts_of path))).end ≡ refused 23
        → MeetsNinth (start a t) at path room
    to-ninth (refused n) e z = absurd (not-said (says-enter a t at path) e refl z)
    to-ninth (done to) e z = (to, e, loops a t room most_links [] to (parts_of path) z)

    from-ninth : MeetsNinth (start a t) at path room → (walk_in (start a t) at path room).end ≡ refused 23
    from-ninth x = rw x.1 (looped a t room x.2.trail x.2.meets)

refuses : {A : Type 0} {Q : A → Type 0} {R : ℕ → Type 0} {n : ℕ} → Ok Q R (refused n) → R n
refuses (said r) = r

pub ninth-link-call : NinthLinkCall
unfolding NinthLinkCall NinthLink
ninth-link-call x w h i path room y live =
    let N = ninth-link a t (row_spot t i) path room in (
      λ e. N.0 (only (walk_in (start a t) (row_spot t i) path room).end (sym ends ∙ e)),
      λ m. ends ∙ ap (λ (o : Out Spot). bind o rest) (N.1 m),
    )
  where
    a : List ℕ
    a = x.arena

    t : Table
    t = x.table

    rest : Spot → Out Added
    rest at = bind (ensure (can_hold x.table w) 16) (λ _. hold_node (start x.arena x.table) w at.id)

    ends : (call_walk x.arena x.table w h path room).end ≡ bind (walk_in (start x.arena x.table) (row_spot x.table i) path room).end rest
    ends =
        let A = allowed x y in
        walk_is a t w h path room ∙ rw (admitted a t A, handle-done t w h i (live-owns t w h i (formed a t A) live)) refl

    -- the hold gives 16 or 19
    only : (o : Out Spot) → bind o rest ≡ refused 23 → o ≡ refused 23
    only (refused m) e = ap refused (ap answer e)
    only (done at) e =
        absurd (refuses (subst (Says Not23) e
        (says_then (says-ensure (can_hold t w) 16 (no 16 refl)) λ _. says-hold (no 19 refl) a t w at.id)) refl)
