-- The test of `==` on bytes beside the definition's.
use native.Mathlib.Omega.{arith}
use mathlib.Core.Path.{◌≡◌, refl, ap, ◌∙◌}
use mathlib.Core.Bool.{Bool, ◌&&◌}
use mathlib.Core.List.{List, [], ◌∷◌}
use Prim.Native.Nat.{ℕ, zero, suc}
use lib.Dec.{eqb}
use lib.ListN.{length, replicate}
use borrow.Author.Tests.{eq-eqb}
use Rattle.std.specs.Cmp.Lexicographic.{pointwise}
use Rattle.base.specs.Decides.{every}
use Rattle.base.specs.Count.{all_to}
use Rattle.base.proofs.Sames.{every-all_to}
use Rattle.table.specs.Zero.{is_zero_at, bytes_zero}

each-zero : (n : ℕ) (l : List ℕ) → length l ≡ n → pointwise eqb l (replicate n 0) ≡ every (λ x. eqb x 0) l
unfolding every
each-zero zero [] e = refl
each-zero zero (x ∷ l) e = absurd (omega arith)
each-zero (suc n) [] e = absurd (omega arith)
each-zero (suc n) (x ∷ l) e = ap (λ (b : Bool). eqb x 0 && b) (each-zero n l (omega arith))

pub zero_bytes : (l : List ℕ) → length l ≡ 16 → pointwise eqb l (replicate 16 0) ≡ bytes_zero l
unfolding bytes_zero
zero_bytes l e = rw (eq-eqb (length l) 16 e) (each-zero 16 l e ∙ every-all_to (λ x. eqb x 0) l ∙ ap (all_to (is_zero_at l)) e)
