-- What the ends write, by what the call's function returned.
use mathlib.Core.Path.{◌≡◌}
use mathlib.Core.List.{List}
use Prim.Native.Nat.{ℕ}
use lib.Dec.{eqb}
use borrow.Author.Tests.{ne_eqb}
use Rattle.base.specs.Search.{pick}

-- what is written where the reason is 0
pub picked : (x y : List ℕ) (r : ℕ) → r ≡ 0 → x ≡ pick (eqb r 0) x y
picked x y r e = rw e

pub passed_over : (x y : List ℕ) (r : ℕ) → (r ≡ 0 → ⊥) → y ≡ pick (eqb r 0) x y
passed_over x y r z = rw (ne_eqb r 0 z)
