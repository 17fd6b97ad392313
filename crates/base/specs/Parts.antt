-- Parts of a list: what a lent part is, what its lender is when the part is back, and lists filled by index.
use Rattle.std.specs.Prelude.{List, [], ◌∷◌, ◌++◌, ◌⊎◌, ℕ, zero, suc, ◌+◌, ◌-◌, ◌≤◌, ◌<◌, length, take, drop}

-- the elements from s up to e: `&a[s..e]`
abbrev pub part : List ℕ → ℕ → ℕ → List ℕ
part a s e = take (e - s) (drop s a)

-- a, when `&mut a[s..e]` comes back as b
abbrev pub back : List ℕ → ℕ → ℕ → List ℕ → List ℕ
back a s e b = take s a ++ (b ++ drop (e - s) (drop s a))

-- a, with b laid over it from s on
unfoldable pub paste : List ℕ → ℕ → List ℕ → List ℕ
paste a s b = back a s (s + length b) b

-- f s, .., f (s + n - 1)
unfoldable pub tab : (ℕ → ℕ) → ℕ → ℕ → List ℕ
tab f s zero = []
tab f s (suc n) = f s ∷ tab f (suc s) n

-- place p is none of the n places from x on
abbrev pub Outside : ℕ → ℕ → ℕ → Type 0
Outside p x n = (p < x) ⊎ (x + n ≤ p)
