-- More laws of searches and counts: as an answer to match on, as a test, and as a loop counts.
use mathlib.Core.Path.{◌≡◌, refl, sym, ap, subst, ◌∙◌}
use mathlib.Core.Bool.{Bool, true, false, not}
use mathlib.Core.List.{List, map}
use mathlib.Core.Logic.{◌⊎◌, inl, inr}
use Prim.Native.Nat.{ℕ, suc, ◌+◌, ◌-◌, ◌≤◌, ◌<◌}
use native.Mathlib.Omega.{arith}
use native.Mathlib.Decide.{ℕ_discrete}
use lib.Dec.{ltb}
use lib.ListN.{length, length-map}
use borrow.Author.Tests.{lt-ltb, le-ltb, ltb-true, ltb-false}
use Rattle.base.specs.Count.{sum_to, count_to, bit}
use Rattle.base.specs.Search.{lowest, found_below}
use Rattle.std.specs.Prelude.{Some, None}
use Rattle.base.proofs.Counts.{sum_to-suc, sum_to-part, sum_to-join, sum_to-add, sum_to-cong, sum_to-one, count_to-more}
use Rattle.base.proofs.Searches.{lowest-first, lowest-here, lowest-none, lowest-hit, lowest-at-most, lowest-cong, at-found, nothing-found, found_at, found_nothing, count_to-found}

-- a loop that stops at k, and one that passed all: as an answer to match on
pub search-hit : (p : ℕ → Bool) (n k : ℕ) → k < n → ((j : ℕ) → j < k → p j ≡ false) → p k ≡ true → Some k ≡ found_below (lowest p n) n
search-hit p n k l before hit = sym (found_at k n l) ∙ ap (λ (m : ℕ). found_below m n) (lowest-here p n k l before hit)

pub search-none : (p : ℕ → Bool) (n : ℕ) → ((j : ℕ) → j < n → p j ≡ false) → None ≡ found_below (lowest p n) n
search-none p n before = sym (found_nothing n n (omega arith)) ∙ ap (λ (m : ℕ). found_below m n) (lowest-none p n before)

-- the same, as a test that one has p
pub search-yes : (p : ℕ → Bool) (n k : ℕ) → k < n → ((j : ℕ) → j < k → p j ≡ false) → p k ≡ true → true ≡ ltb (lowest p n) n
search-yes p n k l before hit = sym (lt-ltb k n l) ∙ ap (λ (m : ℕ). ltb m n) (lowest-here p n k l before hit)

pub search_no : (p : ℕ → Bool) (n : ℕ) → ((j : ℕ) → j < n → p j ≡ false) → false ≡ ltb (lowest p n) n
search_no p n before = sym (le-ltb n n (omega arith)) ∙ ap (λ (m : ℕ). ltb m n) (lowest-none p n before)

-- a loop that counts: one more turn
pub count_yes : (p : ℕ → Bool) (i n m : ℕ) → n ≡ count_to p i → p i ≡ true → m ≡ n + 1 → m ≡ count_to p (i + 1)
count_yes p i n m e y q = omega (arith, count_to-more p i, ap bit y)

pub count_no : (p : ℕ → Bool) (i n m : ℕ) → n ≡ count_to p i → p i ≡ false → m ≡ n → m ≡ count_to p (i + 1)
count_no p i n m e y q = omega (arith, count_to-more p i, ap bit y)

-- what an array's own fact says of a field that is an array of structs: its elements go through a map there
pub len_of : {A B : Type 0} (f : A → B) (l : List A) (n : ℕ) → length (map f l) ≡ n → length l ≡ n
len_of f l n e = sym (length-map l f) ∙ e

pub eq-cases : (i j : ℕ) → (i ≡ j) ⊎ (i ≡ j → ⊥)
eq-cases i j = elim (ℕ_discrete i j) [ yes e ↦ inl e | no n ↦ inr n ]

module _ (p : ℕ → Bool) (n : ℕ) where
  -- what is found is below the bound, and has p
  pub search-at : (i : ℕ) → found_below (lowest p n) n ≡ Some i → (i < n) × (p i ≡ true)
  search-at i e =
      let f = at-found (lowest p n) n i e in
      (f.1, subst (λ (j : ℕ). p j ≡ true) (sym f.0) (lowest-hit p n (omega arith)))

  -- where nothing is found, none has it
  pub search-nothing : found_below (lowest p n) n ≡ None → (j : ℕ) → j < n → p j ≡ false
  search-nothing e j l = (lowest-first p n).before j (omega (arith, nothing-found (lowest p n) n e))

  -- where one has it, one is found
  pub search-finds : (j : ℕ) → j < n → p j ≡ true → found_below (lowest p n) n ≡ Some (lowest p n)
  search-finds j l e = found_at (lowest p n) n (omega (arith, lowest-at-most p n j l e))

  -- where i alone has it, i is found
  pub search-one : (i : ℕ) → i < n → p i ≡ true → ((j : ℕ) → j < n → p j ≡ true → j ≡ i) → found_below (lowest p n) n ≡ Some i
  search-one i l e one =
      let k : lowest p n < n = omega (arith, lowest-at-most p n i l e) in
      search-finds i l e ∙ ap Some (one (lowest p n) k (lowest-hit p n k))

  -- the same as a test
  pub test-yes : (j : ℕ) → j < n → p j ≡ true → ltb (lowest p n) n ≡ true
  test-yes j l e = lt-ltb (lowest p n) n (omega (arith, lowest-at-most p n j l e))

  pub test_at : ltb (lowest p n) n ≡ true → (lowest p n < n) × (p (lowest p n) ≡ true)
  test_at e = let k = ltb-true (lowest p n) n e in (k, lowest-hit p n k)

  pub test-no : ltb (lowest p n) n ≡ false → (j : ℕ) → j < n → p j ≡ false
  test-no e j l = (lowest-first p n).before j (omega (arith, ltb-false (lowest p n) n e))

pub search-cong : (p q : ℕ → Bool) (n : ℕ) → ((j : ℕ) → j < n → p j ≡ q j) → found_below (lowest p n) n ≡ found_below (lowest q n) n
search-cong p q n h = ap (λ (m : ℕ). found_below m n) (lowest-cong p q n h)

bit_not : (b : Bool) → bit b + bit (not b) ≡ 1
bit_not true = refl
bit_not false = refl

-- those that have p and those that have it not are all
pub count_to-not : (p : ℕ → Bool) (n : ℕ) → count_to p n + count_to (λ i. not (p i)) n ≡ n
unfolding count_to
count_to-not p n =
    sym (sum_to-add (λ i. bit (p i)) (λ i. bit (not (p i))) n)
    ∙ sum_to-cong (λ i. bit (p i) + bit (not (p i))) (λ i. 1) n (λ i l. bit_not (p i))
    ∙ sum_to-one n

-- where fewer than n have p, one has it not
pub count_to-room : (p : ℕ → Bool) (n : ℕ) → count_to p n < n → lowest (λ i. not (p i)) n < n
count_to-room p n l = count_to-found (λ i. not (p i)) n (omega (arith, count_to-not p n))

-- one that passes is counted
pub count_to-some : (p : ℕ → Bool) (n k : ℕ) → k < n → p k ≡ true → 0 < count_to p n
unfolding count_to
count_to-some p n k l e = omega (arith, sum_to-part (λ i. bit (p i)) n k l, ap bit e)

pub count_to-suc : (p : ℕ → Bool) (n : ℕ) → count_to p (suc n) ≡ count_to p n + bit (p n)
unfolding count_to
count_to-suc p n = sum_to-suc (λ i. bit (p i)) n

-- the first m are among the first n
pub count_to-first : (p : ℕ → Bool) (m n : ℕ) → m ≤ n → count_to p m ≤ count_to p n
unfolding count_to
count_to-first p m n l =
    let e : m + (n - m) ≡ n = omega arith in
    omega (arith, sum_to-join (λ i. bit (p i)) m (n - m), ap (sum_to (λ i. bit (p i))) e)
