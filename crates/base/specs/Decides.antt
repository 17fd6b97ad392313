-- Tests that compute, and what they say.
use Rattle.std.specs.Prelude.{Bool, true, false, ◌&&◌, List, [], ◌∷◌, ℕ, suc, T, eqb}

-- a test decides a statement
pub record Decides (b : Bool) (P : Type 0) : Type 0 where
  pub right : T b → P
  pub left : P → T b

-- p holds of all elements of a list
unfoldable pub every : {A : Type 0} → (A → Bool) → List A → Bool
every p [] = true
every p (x ∷ l) = p x && every p l

-- two lists of numbers are the same
unfoldable pub same : List ℕ → List ℕ → Bool
same [] [] = true
same [] (y ∷ m) = false
same (x ∷ l) [] = false
same (x ∷ l) (y ∷ m) = eqb x y && same l m

-- the number of the first test that fails, counted from k; 0 if none does
unfoldable pub first_fail : ℕ → List Bool → ℕ
first_fail k [] = 0
first_fail k (true ∷ l) = first_fail (suc k) l
first_fail k (false ∷ l) = k
