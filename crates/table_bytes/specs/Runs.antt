-- Things one after another, by their number: the last outermost, as a loop makes them.
use Rattle.std.specs.Prelude.{List, [], ◌∷◌, ◌++◌, ℕ, zero, suc}

-- the bytes f 0, .., f (n - 1), one after another
unfoldable pub run_to : (ℕ → List ℕ) → ℕ → List ℕ
run_to f zero = []
run_to f (suc n) = run_to f n ++ f n

-- the list of f 0, .., f (n - 1)
unfoldable pub list_to : {A : Type 0} → (ℕ → A) → ℕ → List A
list_to f zero = []
list_to f (suc n) = list_to f n ++ (f n ∷ [])
