-- The one search: the lowest number below a bound that has a property, or the bound itself where none has it.
use Rattle.std.specs.Prelude.{Bool, true, false, cond, ℕ, zero, suc, ltb, eqb, Option, Some, None}

unfoldable pub lowest : (ℕ → Bool) → ℕ → ℕ
lowest p zero = 0
lowest p (suc n) = cond (ltb (lowest p n) n) (lowest p n) (cond (p n) n (suc n))

-- one more than the highest number below n that has p, or 0
unfoldable pub last : (ℕ → Bool) → ℕ → ℕ
last p zero = 0
last p (suc n) = cond (p n) (suc n) (last p n)

-- a choice between two values of any type
abbrev pub pick : {A : Type 0} → Bool → A → A → A
pick true a b = a
pick false a b = b

-- the search's answer, as the code matches on it
unfoldable pub found_below : ℕ → ℕ → Option ℕ
found_below k n = pick (ltb k n) (Some k) None

-- a function changed at one place
unfoldable pub upd : {A : Type 0} → (ℕ → A) → ℕ → A → ℕ → A
upd f k x i = pick (eqb i k) x (f i)
