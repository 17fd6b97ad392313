-- A number in decimal, digit by digit.
use mathlib.Core.Path.{◌≡◌, sym, ap, ◌∙◌}
use mathlib.Core.Logic.{⊎_elim}
use mathlib.Core.List.{List, [], ◌∷◌, ◌++◌}
use Prim.Native.Nat.{ℕ, zero, suc, ◌+◌, ◌/◌, ◌%◌, ◌≤◌, ◌<◌}
use native.Mathlib.Omega.{arith}
use lib.ListN.{length, length-append}
use Rattle.base.proofs.Numbers.{lt-or-le}
use Rattle.inventory.specs.Text.{digits, decimal}
use Rattle.inventory.proofs.Numbers.{digits_low, digits-high}

-- turns past the number change nothing
digits-enough : (k j n : ℕ) → n < k → n < j → digits k n ≡ digits j n
digits-enough zero j n h g = absurd (omega arith)
digits-enough (suc k) zero n h g = absurd (omega arith)
digits-enough (suc k) (suc j) n h g =
    ⊎_elim
    (λ (l : n < 10). digits_low k n l ∙ sym (digits_low j n l))
    (λ (l : 10 ≤ n). digits-high k n l ∙ ap (λ (d : List ℕ). d ++ ((48 + n % 10) ∷ [])) (digits-enough k j (n / 10) (omega arith) (omega arith)) ∙ sym (digits-high j n l))
    (lt-or-le n 10)

pub decimal-low : (n : ℕ) → n < 10 → decimal n ≡ (48 + n) ∷ []
unfolding decimal
decimal-low n l = digits_low n n l

pub decimal-high : (n : ℕ) → 10 ≤ n → decimal n ≡ decimal (n / 10) ++ ((48 + n % 10) ∷ [])
unfolding decimal
decimal-high n l = digits-high n n l ∙ ap (λ (d : List ℕ). d ++ ((48 + n % 10) ∷ [])) (digits-enough n (suc (n / 10)) (n / 10) (omega arith) (omega arith))

pub length-low : (n : ℕ) → n < 10 → length (decimal n) ≡ 1
length-low n l = ap length (decimal-low n l)

pub length_high : (n : ℕ) → 10 ≤ n → length (decimal n) ≡ length (decimal (n / 10)) + 1
length_high n l = ap length (decimal-high n l) ∙ length-append (decimal (n / 10)) ((48 + n % 10) ∷ [])

pub length_some : (n : ℕ) → 1 ≤ length (decimal n)
length_some n =
    ⊎_elim (λ (l : n < 10). omega (arith, length-low n l)) (λ (l : 10 ≤ n). omega (arith, length_high n l)) (lt-or-le n 10)
