-- What holds all the way: where P holds at the start and at root, and each part leads from where it holds to where it holds, it holds at the end
-- of the walk; and where R holds of each step's reasons, it holds of the walk's.
use mathlib.Core.Path.{◌≡◌, refl}
use mathlib.Core.Bool.{Bool, true, false}
use mathlib.Core.List.{List, [], ◌∷◌, ◌++◌}
use Prim.Native.Nat.{ℕ, zero, suc, ◌-◌}
use lib.ListN.{length}
use Rattle.base.specs.Out.{Out, done, refused, bind, ensure, Ok, went, said}
use Rattle.base.specs.Search.{pick}
use Rattle.base.proofs.Outs.{ok-bind}
use Rattle.structs.specs.declared.DiskINode.{DiskINode}
use Rattle.table.specs.declared.Table.{Table}
use Rattle.table.specs.declared.Handle.{Handle}
use Rattle.table.specs.Table.{row_at, can_hold}
use Rattle.sefs.specs.State.{Fs}
use Rattle.sefs.specs.Ask.{admit, by_handle, start}
use Rattle.sefs.specs.Open.{hold_node}
use Rattle.walk.specs.Walk.{Spot, spot, at_root, part_in, is_link, Way, ended, met, along, target_of, good_text, from_root, parts_of, enter, Walked, or_stop, or_end, most_links, walk_on, walk_in, hold_end, call_walk}

-- each step of a walk in state s leads from P to P, or is refused with R
pub record Steady (s : Fs) (P : Spot → Type 0) (R : ℕ → Type 0) : Type 0 where
  pub root : Ok P R (at_root s)
  pub part : (at : Spot) → P at → (name : List ℕ) → Ok P R (part_in s at.rec name)
  pub target : (at : Spot) → P at → (room : ℕ) → Ok (λ _. Unit) R (target_of s.arena at.rec room)
  pub bad : R 5
  pub loop : R 23

-- how a walk ends
data Ends {A : Type 0} (P : A → Type 0) (R : ℕ → Type 0) : Walked A → Type 0 where
  ends : {w : Walked A} → Ok P R w.end → Ends P R w

ends-then : {A B : Type 0} {P : A → Type 0} {Q : B → Type 0} {R : ℕ → Type 0} {o : Out A} {f : A → Walked B} (b : List ℕ) (k : ℕ)
    → Ok P R o → ((x : A) → P x → Ends Q R (f x)) → Ends Q R (or_stop b k o f)
ends-then b k (went {a = x} h) g = g x h
ends-then b k (said r) g = ends (said r)

ends_as : {A : Type 0} {P : A → Type 0} {R : ℕ → Type 0} (w : Walked A) → Ends P R w → Ok P R w.end
ends_as w (ends h) = h

module _ {s : Fs} {P : Spot → Type 0} {R : ℕ → Type 0} (S : Steady s P R) where
  -- P of where a way ends; or of the folder that a link was met in
  data Led : Way → Type 0 where
    to_end : {at : Spot} → P at → Led (ended at)
    to-link : {at : Spot} {r : DiskINode} {ps : List (List ℕ)} → P at → ((room : ℕ) → Ok (λ _. Unit) R (target_of s.arena r room)) → Led (met at r ps)

  led-along : (at : Spot) (ps : List (List ℕ)) → P at → Ok Led R (along s at ps)
  unfolding along
  led-along at [] h = went (to_end h)
  led-along at (p ∷ ps) h = ok-bind (S.part at h p) λ n g. go n g (is_link n.rec) (led-along n ps g)
    where
      go : (n : Spot) → P n → (b : Bool) → Ok Led R (along s n ps) → Ok Led R (pick b (done (met at n.rec ps)) (along s n ps))
      go n g true k = went (to-link h (S.target n g))
      go n g false k = k

  by_way : {w : Way} {f : Spot → DiskINode → List (List ℕ) → Walked Spot} (b : List ℕ) (k : ℕ) → Led w
      → ((at : Spot) (r : DiskINode) (ps : List (List ℕ)) → P at → ((room : ℕ) → Ok (λ _. Unit) R (target_of s.arena r room)) → Ends P R (f at r ps)) → Ends P R (or_end b k w f)
  by_way b k (to_end h) g = ends (went h)
  by_way b k (to-link {at = at} {r = r} {ps = ps} h x) g = g at r ps h x

  enters : (at : Spot) (l : List ℕ) → P at → Ok P R (enter s at l)
  unfolding enter
  enters at l h = go (good_text l) (from_root l)
    where
      go : (g r : Bool) → Ok P R (bind (ensure g 5) (λ _. pick r (at_root s) (done at)))
      go true true = S.root
      go true false = went h
      go false r = said S.bad

  goes_on : (room k : ℕ) (b : List ℕ) (at : Spot) (ps : List (List ℕ)) → P at → Ends P R (walk_on s room k b at ps)
  unfolding walk_on
  goes_on room zero b at ps h = ends-then b 0 (led-along at ps h) λ w l. by_way b 0 l λ f r qs F x. ends (said S.loop)
  goes_on room (suc k) b at ps h =
      ends-then b (suc k) (led-along at ps h) λ w l. by_way b (suc k) l λ f r qs F x.
      ends-then b (suc k) (x (room - length b)) λ m _.
      ends-then (b ++ m) k (enters f m F) λ to T.
      goes_on room k (b ++ m) to (parts_of m ++ qs) T

  pub walk_ends : (at : Spot) → P at → (path : List ℕ) (room : ℕ) → Ok P R (walk_in s at path room).end
  unfolding walk_in
  walk_ends at h path room = ends_as _ (ends-then [] most_links (enters at path h) λ to g. goes_on room most_links [] to (parts_of path) g)

-- ---- the call: what it asks, the walk from the handle's folder, and the last node's hold

pub walk_is : (a : List ℕ) (t : Table) (w : ℕ) (h : Handle) (path : List ℕ) (room : ℕ)
    → (call_walk a t w h path room).end ≡ bind (admit a t) (λ _. bind (by_handle t w h) (λ i.
    bind (walk_in (start a t) (spot (row_at t i).id (row_at t i).rec) path room).end (λ at. bind (ensure (can_hold t w) 16) (λ _. hold_node (start a t) w at.id))))
unfolding call_walk hold_end
walk_is a t w h path room = go (admit a t) (by_handle t w h)
  where
    from : ℕ → Walked Spot
    from i = walk_in (start a t) (spot (row_at t i).id (row_at t i).rec) path room

    go : (m : Out Unit) (o : Out ℕ) → (or_stop [] most_links (bind m (λ _. o)) (λ i. hold_end a t w (from i))).end ≡ bind m (λ _. bind o (λ i. (hold_end a t w (from i)).end))
    go (done _) (done i) = refl
    go (done _) (refused n) = refl
    go (refused n) o = refl
