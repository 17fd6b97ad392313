-- What a desk says of its script.
use mathlib.Core.Bool.{Bool, true, false, not, cond, true≢false}
use mathlib.Core.List.{List}
use mathlib.Core.Logic.{⊎_elim}
use mathlib.Core.Path.{◌≡◌, refl, ap, ◌∙◌}
use Prim.Native.Nat.{ℕ, ◌+◌, ◌-◌, ◌<◌, ◌≤◌}
use native.Mathlib.Omega.{arith}
use borrow.Author.Tests.{eqb-true, not-false}
use lib.Dec.{eqb}
use lib.ListN.{length, get_or, set, length-set}
use lib.Seq.{get_or-set_same}
use Rattle.base.proofs.Bools.{bool_cases}
use Rattle.le.specs.Le.{le_at, le_put}
use Rattle.le.proofs.Laws.{le_at-le_put-fits, get_or-le_put-out}
use Rattle.replay_lib.specs.Steps.{ended_in, to_go}

-- a desk d that took the mark m and then the place v
module _ (d e : List ℕ) (v m : ℕ) (n : length d ≡ 4419) (f : v < 18446744073709551616) (p : e ≡ le_put (set d 4418 m) 4410 8 v) where
  room : 4410 + 8 ≤ length (set d 4418 m)
  room = simp length-set (omega arith)

  pub place_is : le_at e 4410 8 ≡ v
  place_is = ap (λ (l : List ℕ). le_at l 4410 8) p ∙ le_at-le_put-fits (set d 4418 m) 4410 8 v room f

  pub mark-is : get_or e 4418 0 ≡ m
  mark-is =
      ap (λ (l : List ℕ). get_or l 4418 0) p
      ∙ get_or-le_put-out (set d 4418 m) 4410 8 v room 4418 (λ h. omega arith)
      ∙ get_or-set_same d 4418 m 0 (omega arith)

test_of : (a x : Bool) → cond a (not x) true ≡ false → x ≡ true
test_of true x e = not-false x e
test_of false x e = absurd (true≢false e)

length-of : (a x : Bool) → cond a (not x) true ≡ false → a ≡ true
length-of true x e = refl
length-of false x e = absurd (true≢false e)

-- a desk that has not ended has its length
pub desk-length : (d : List ℕ) → ended_in d ≡ false → length d ≡ 4419
desk-length d e = eqb-true _ _ (length-of (eqb (length d) 4419) (eqb (get_or d 4418 0) 0) e)

-- and the mark 0
pub unmarked : (d : List ℕ) → ended_in d ≡ false → get_or d 4418 0 ≡ 0
unmarked d e = eqb-true _ _ (test_of (eqb (length d) 4419) (eqb (get_or d 4418 0) 0) e)

to-go-ended : (n : ℕ) (d : List ℕ) → ended_in d ≡ true → to_go n d ≡ 0
unfolding to_go
to-go-ended n d e = rw e

pub to-go-open : (n : ℕ) (d : List ℕ) → ended_in d ≡ false → to_go n d ≡ 1 + (n - le_at d 4410 8)
unfolding to_go
to-go-open n d e = rw e

-- the script of n bytes is gone on from the desk d's place to v, which the desk e has: less is left
module _ (n v : ℕ) (d e : List ℕ) (o : ended_in d ≡ false) (q : le_at e 4410 8 ≡ v) (m : get_or e 4418 0 ≡ 0 → v < n) (k : le_at d 4410 8 ≤ v) (h : le_at d 4410 8 < n → le_at d 4410 8 < v) where
  pub to-go-less : to_go n e < to_go n d
  to-go-less =
      ⊎_elim (λ t. omega (arith, to-go-ended n e t, to-go-open n d o))
      (λ t. let u = m (unmarked e t) in omega (arith, to-go-open n e t, to-go-open n d o, h (omega arith)))
      (bool_cases (ended_in e))
