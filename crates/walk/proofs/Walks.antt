-- The walk, step by step: what a text that runs out, a link and a refusal make of it.
use mathlib.Core.Path.{◌≡◌, refl, sym, ◌∙◌, ap}
use mathlib.Core.Bool.{Bool, true, false}
use mathlib.Core.List.{List, [], ◌∷◌, ◌++◌, append_assoc}
use Prim.Native.Nat.{ℕ, zero, suc, ◌-◌}
use lib.ListN.{length}
use Rattle.base.specs.Out.{Out, done, refused, bind}
use Rattle.base.specs.Reasons.{sym_loop}
use Rattle.base.specs.Search.{pick}
use Rattle.structs.specs.declared.DiskINode.{DiskINode}
use Rattle.sefs.specs.State.{Fs}
use Rattle.walk.specs.Walk.{Spot, part_in, is_link, Way, ended, met, along, target_of, enter, parts_of, Walked, walked, walk_on}
use Rattle.walk.specs.Laws.{and_then}

-- ---- along parts

module _ (s : Fs) where
  pub along-none : (at : Spot) → along s at [] ≡ done (ended at)
  unfolding along
  along-none at = refl

  module _ (at : Spot) (p : List ℕ) (ps : List (List ℕ)) where
    pub along-stop : {n : ℕ} → part_in s at.rec p ≡ refused n → along s at (p ∷ ps) ≡ refused n
    unfolding along
    along-stop e = rw e

    pub along-link : {n : Spot} → part_in s at.rec p ≡ done n → is_link n.rec ≡ true → along s at (p ∷ ps) ≡ done (met at n.rec ps)
    unfolding along
    along-link e l = rw (e, l)

    pub along-on : {n : Spot} → part_in s at.rec p ≡ done n → is_link n.rec ≡ false → along s at (p ∷ ps) ≡ along s n ps
    unfolding along
    along-on e l = rw (e, l)

  -- more parts after those
  abbrev pub more : List (List ℕ) → Out Way → Out Way
  more qs o = bind o (λ w. more_of qs w)
    where
      more_of : List (List ℕ) → Way → Out Way
      more_of qs (ended e) = along s e qs
      more_of qs (met f r ps) = done (met f r (ps ++ qs))

  join-part : (at : Spot) (ps qs : List (List ℕ)) → ((n : Spot) → along s n (ps ++ qs) ≡ more qs (along s n ps)) → (o : Out Spot)
      → bind o (λ n. pick (is_link n.rec) (done (met at n.rec (ps ++ qs))) (along s n (ps ++ qs))) ≡ more qs (bind o (λ n. pick (is_link n.rec) (done (met at n.rec ps)) (along s n ps)))
  join-part at ps qs h (refused n) = refl
  join-part at ps qs h (done n) = by-type (is_link n.rec)
    where
      by-type : (b : Bool) → pick b (done (met at n.rec (ps ++ qs))) (along s n (ps ++ qs)) ≡ more qs (pick b (done (met at n.rec ps)) (along s n ps))
      by-type true = refl
      by-type false = h n

  pub along-join : (at : Spot) (ps qs : List (List ℕ)) → along s at (ps ++ qs) ≡ more qs (along s at ps)
  unfolding along
  along-join at [] qs = refl
  along-join at (p ∷ ps) qs = join-part at ps qs (λ n. along-join n ps qs) (part_in s at.rec p)

-- ---- the walk

module _ (s : Fs) (room : ℕ) where
  pub walk-stop : (k : ℕ) (b : List ℕ) (at : Spot) (ps : List (List ℕ)) {n : ℕ} → along s at ps ≡ refused n → walk_on s room k b at ps ≡ walked b k (refused n)
  unfolding walk_on
  walk-stop zero b at ps e = rw e
  walk-stop (suc k) b at ps e = rw e

  pub walk_end : (k : ℕ) (b : List ℕ) (at : Spot) (ps : List (List ℕ)) {to : Spot} → along s at ps ≡ done (ended to) → walk_on s room k b at ps ≡ walked b k (done to)
  unfolding walk_on
  walk_end zero b at ps e = rw e
  walk_end (suc k) b at ps e = rw e

  -- a text runs out, and what was remembered goes on
  pub walk-resume : (k : ℕ) (b : List ℕ) (at : Spot) (ps qs : List (List ℕ)) {to : Spot} → along s at ps ≡ done (ended to) → walk_on s room k b at (ps ++ qs) ≡ walk_on s room k b to qs
  unfolding walk_on
  walk-resume zero b at ps qs e = rw (along-join s at ps qs, e)
  walk-resume (suc k) b at ps qs e = rw (along-join s at ps qs, e)

  module _ (b : List ℕ) (at : Spot) (ps : List (List ℕ)) {f : Spot} {r : DiskINode} {qs : List (List ℕ)} (m : along s at ps ≡ done (met f r qs)) where
    pub walk_loop : walk_on s room 0 b at ps ≡ walked b 0 (refused sym_loop)
    unfolding walk_on
    walk_loop = rw m

    pub walk-unread : (k : ℕ) {n : ℕ} → target_of s.arena r (room - length b) ≡ refused n → walk_on s room (suc k) b at ps ≡ walked b (suc k) (refused n)
    unfolding walk_on
    walk-unread k e = rw (m, e)

    module _ (k : ℕ) {l : List ℕ} (t : target_of s.arena r (room - length b) ≡ done l) where
      pub walk-bad : {n : ℕ} → enter s f l ≡ refused n → walk_on s room (suc k) b at ps ≡ walked (b ++ l) k (refused n)
      unfolding walk_on
      walk-bad e = rw (m, t, e)

      pub walk-follow : {to : Spot} → enter s f l ≡ done to → walk_on s room (suc k) b at ps ≡ walk_on s room k (b ++ l) to (parts_of l ++ qs)
      unfolding walk_on
      walk-follow e = rw (m, t, e)

  -- walking p/q is walking p, and then q from there
  abbrev after : List (List ℕ) → Walked Spot → Walked Spot
  after qs x = and_then x (λ b k to. walk_on s room k b to qs)

  module _ (k : ℕ) (b : List ℕ) (at : Spot) (ps qs : List (List ℕ)) where
    join-stop : {n : ℕ} → along s at ps ≡ refused n → walk_on s room k b at (ps ++ qs) ≡ after qs (walk_on s room k b at ps)
    join-stop e = walk-stop k b at (ps ++ qs) (along-join s at ps qs ∙ ap (more s qs) e) ∙ sym (ap (after qs) (walk-stop k b at ps e))

    join-end : {to : Spot} → along s at ps ≡ done (ended to) → walk_on s room k b at (ps ++ qs) ≡ after qs (walk_on s room k b at ps)
    join-end e = walk-resume k b at ps qs e ∙ sym (ap (after qs) (walk_end k b at ps e))

  module _ (b : List ℕ) (at : Spot) (ps qs : List (List ℕ)) {f : Spot} {r : DiskINode} {rs : List (List ℕ)} (m : along s at ps ≡ done (met f r rs)) where
    with-more : along s at (ps ++ qs) ≡ done (met f r (rs ++ qs))
    with-more = along-join s at ps qs ∙ ap (more s qs) m

    join-loop : walk_on s room 0 b at (ps ++ qs) ≡ after qs (walk_on s room 0 b at ps)
    join-loop = walk_loop b at (ps ++ qs) with-more ∙ sym (ap (after qs) (walk_loop b at ps m))

    module _ (k : ℕ) (h : (c : List ℕ) (to : Spot) (l : List ℕ) → walk_on s room k c to ((parts_of l ++ rs) ++ qs) ≡ after qs (walk_on s room k c to (parts_of l ++ rs))) where
      join-enter : {l : List ℕ} (t : target_of s.arena r (room - length b) ≡ done l) (o : Out Spot) → enter s f l ≡ o → walk_on s room (suc k) b at (ps ++ qs) ≡ after qs (walk_on s room (suc k) b at ps)
      join-enter t (refused n) e = walk-bad b at (ps ++ qs) with-more k t e ∙ sym (ap (after qs) (walk-bad b at ps m k t e))
      join-enter {l = l} t (done to) e =
          walk-follow b at (ps ++ qs) with-more k t e
          ∙ ap (walk_on s room k (b ++ l) to) (sym (append_assoc (parts_of l) rs qs))
          ∙ h (b ++ l) to l
          ∙ sym (ap (after qs) (walk-follow b at ps m k t e))

      join-target : (o : Out (List ℕ)) → target_of s.arena r (room - length b) ≡ o → walk_on s room (suc k) b at (ps ++ qs) ≡ after qs (walk_on s room (suc k) b at ps)
      join-target (refused n) t = walk-unread b at (ps ++ qs) with-more k t ∙ sym (ap (after qs) (walk-unread b at ps m k t))
      join-target (done l) t = join-enter t (enter s f l) refl

  join_by : (k : ℕ) (b : List ℕ) (at : Spot) (ps qs : List (List ℕ)) (w : Out Way) → along s at ps ≡ w
      → ((f : Spot) (r : DiskINode) (rs : List (List ℕ)) → along s at ps ≡ done (met f r rs) → walk_on s room k b at (ps ++ qs) ≡ after qs (walk_on s room k b at ps))
      → walk_on s room k b at (ps ++ qs) ≡ after qs (walk_on s room k b at ps)
  join_by k b at ps qs (refused n) e h = join-stop k b at ps qs e
  join_by k b at ps qs (done (ended to)) e h = join-end k b at ps qs e
  join_by k b at ps qs (done (met f r rs)) e h = h f r rs e

  pub walk-join : (k : ℕ) (b : List ℕ) (at : Spot) (ps qs : List (List ℕ)) → walk_on s room k b at (ps ++ qs) ≡ and_then (walk_on s room k b at ps) (λ c j to. walk_on s room j c to qs)
  walk-join zero b at ps qs = join_by 0 b at ps qs (along s at ps) refl (λ f r rs m. join-loop b at ps qs m)
  walk-join (suc k) b at ps qs =
      join_by (suc k) b at ps qs (along s at ps) refl
      (λ f r rs m. join-target b at ps qs m k (λ c to l. walk-join k c to (parts_of l ++ rs) qs) (target_of s.arena r (room - length b)) refl)
