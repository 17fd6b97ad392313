-- Sums, tests and counts over the numbers below n, each by recursion on how many were passed, the last outermost:
-- a loop that counts up has the definition at its own counter for its invariant.
use Rattle.std.specs.Prelude.{Bool, true, false, ◌&&◌, ℕ, zero, suc, ◌+◌, eqb}

-- f 0 + .. + f (n - 1)
unfoldable pub sum_to : (ℕ → ℕ) → ℕ → ℕ
sum_to f zero = 0
sum_to f (suc n) = sum_to f n + f n

-- p holds at 0, .., n - 1
unfoldable pub all_to : (ℕ → Bool) → ℕ → Bool
all_to p zero = true
all_to p (suc n) = all_to p n && p n

-- a test as a number
abbrev pub bit : Bool → ℕ
bit true = 1
bit false = 0

-- how many of 0, .., n - 1 satisfy p
unfoldable pub count_to : (ℕ → Bool) → ℕ → ℕ
count_to p n = sum_to (λ i. bit (p i)) n

-- 1 where the two numbers are one, else 0
unfoldable pub ind : ℕ → ℕ → ℕ
ind i j = bit (eqb i j)
