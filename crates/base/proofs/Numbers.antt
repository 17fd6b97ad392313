-- Facts on numbers.
use Prim.Native.Nat.{ℕ, suc, ◌<◌, ◌≤◌}
use mathlib.Core.Path.{sym, subst}
use mathlib.Core.Logic.{◌⊎◌, inl, inr, ⊎_elim}
use native.Mathlib.Nat.{lt_of_not-le, eq-or-lt_of_le, le_of_suc-le-suc}
use native.Mathlib.Decide.{dec_le}

pub lt-or-le : (a b : ℕ) → (a < b) ⊎ (b ≤ a)
lt-or-le a b = elim (dec_le b a) [ yes h ↦ inr h | no h ↦ inl (lt_of_not-le h) ]

-- what holds of each below n, and of n, holds of each below n + 1
pub below_suc : (P : ℕ → Type 0) (n : ℕ) → ((j : ℕ) → j < n → P j) → P n → (j : ℕ) → j < suc n → P j
below_suc P n all here j l = ⊎_elim (λ e. subst P (sym e) here) (λ lt. all j lt) (eq-or-lt_of_le (le_of_suc-le-suc l))
