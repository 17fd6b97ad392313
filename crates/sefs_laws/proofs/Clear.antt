-- The three reasons that no call may give from a passed pair: stuck, damaged, and a malformed table.
use mathlib.Core.Bool.{Bool, true, not, ◌&&◌}
use mathlib.Core.Path.{◌≡◌, refl, sym, subst}
use lib.Dec.{eqb}
use borrow.Author.Tests.{eqb-false, not-true}
use Rattle.base.proofs.Bools.{and_parts}
use mathlib.Core.Logic.{◌≢◌}
use Prim.Native.Nat.{ℕ}

-- none of the three reasons
pub record Clear (n : ℕ) : Type 0 where
  pub not_stuck : n ≢ 19
  pub not-damaged : n ≢ 2
  pub not-malformed : n ≢ 3

-- the same as a test, for reasons that are known
abbrev pub is_clear : ℕ → Bool
is_clear n = not (eqb n 19) && (not (eqb n 2) && not (eqb n 3))

pub clear : (n : ℕ) → is_clear n ≡ true → Clear n
clear n e =
    let x = and_parts (not (eqb n 19)) (not (eqb n 2) && not (eqb n 3)) e in
    let y = and_parts (not (eqb n 2)) (not (eqb n 3)) x.1 in
    record {
      not_stuck = eqb-false n 19 (not-true (eqb n 19) x.0);
      not-damaged = eqb-false n 2 (not-true (eqb n 2) y.0);
      not-malformed = eqb-false n 3 (not-true (eqb n 3) y.1);
    }

pub clear-17 : (r : ℕ) → r ≡ 17 → Clear r
clear-17 r e = subst Clear (sym e) (clear 17 refl)
