-- Tests that decide statements: the forms that the rules need beside those of base. And the first test of a list that fails.
use mathlib.Core.Path.{◌≡◌, refl, sym}
use mathlib.Core.Bool.{Bool, true, false, not, ◌||◌, true≢false}
use mathlib.Core.List.{List, [], ◌∷◌}
use mathlib.Core.Logic.{◌≢◌, ◌⊎◌, inl, inr}
use Prim.Native.Nat.{ℕ, zero, suc, ◌+◌, ◌<◌}
use native.Mathlib.Omega.{arith}
use lib.Dec.{T, eqb, ltb}
use lib.ListN.{length, get_or}
use Rattle.base.specs.Count.{count_to}
use Rattle.base.specs.Decides.{Decides, first_fail}
use Rattle.base.specs.Search.{pick, lowest}
use Rattle.base.proofs.Bools.{true-T}
use Rattle.base.proofs.Sames.{decided-no, decided-yes}
use Rattle.base.proofs.Searches.{lowest-none, lowest-hit, lowest-at-most, count_to-found}
use Rattle.base.proofs.Finds.{count_to-some}
use Rattle.base.proofs.Tests.{decides-iff, decides_eqb, decides_ltb, decides_not}

-- ---- forms of tests

pub decides-false : (b : Bool) → Decides (not b) (b ≡ false)
decides-false true = record { right = λ x. absurd x; left = λ e. true≢false e }
decides-false false = record { right = λ x. refl; left = λ e. tt }

pub decides-ne : (m n : ℕ) → Decides (not (eqb m n)) (m ≢ n)
decides-ne m n = decides_not (decides_eqb m n)

pub decides_or : {a b : Bool} {P Q : Type 0} → Decides a P → Decides b Q → Decides (a || b) (P ⊎ Q)
decides_or {a} {b} {P} {Q} p q = record { right = go a p.right; left = back a p.left }
  where
    go : (c : Bool) → (T c → P) → T (c || b) → P ⊎ Q
    go true r x = inl (r tt)
    go false r x = inr (q.right x)

    back : (c : Bool) → (P → T c) → P ⊎ Q → T (c || b)
    back true l h = tt
    back false l h = elim h [ inl x ↦ absurd (l x) | inr y ↦ q.left y ]

-- a third test says which of two is asked
pub decides-pick : {c a b : Bool} {C P Q : Type 0} → Decides c C → Decides a P → Decides b Q → Decides (pick c a b) ((C → P) × ((C → ⊥) → Q))
decides-pick {c} {a} {b} {C} {P} {Q} d p q = record { right = go c d.right d.left; left = back c d.right d.left }
  where
    go : (c : Bool) → (T c → C) → (C → T c) → T (pick c a b) → (C → P) × ((C → ⊥) → Q)
    go true r l x = (λ _. p.right x, λ n. absurd (n (r tt)))
    go false r l x = (λ h. absurd (l h), λ _. q.right x)

    back : (c : Bool) → (T c → C) → (C → T c) → (C → P) × ((C → ⊥) → Q) → T (pick c a b)
    back true r l h = p.left (h.0 (r tt))
    back false r l h = q.left (h.1 l)

-- ---- searches

module _ (p : ℕ → Bool) (P : ℕ → Type 0) (n : ℕ) (d : (i : ℕ) → Decides (p i) (P i)) where
  -- some number below n
  pub decides-some : Decides (ltb (lowest p n) n) ((i : ℕ) × (i < n) × P i)
  decides-some =
      decides-iff
      (λ l. (lowest p n, l, (d (lowest p n)).right (true-T (p (lowest p n)) (lowest-hit p n l))))
      (λ h. let l = h.1 in omega (arith, lowest-at-most p n h.0 l (decided-yes (d h.0) h.2)))
      (decides_ltb (lowest p n) n)

  -- none
  pub decides-none : Decides (eqb (lowest p n) n) ((i : ℕ) → i < n → P i → ⊥)
  decides-none =
      decides-iff
      (λ e i l h. let g = lowest-at-most p n i l (decided-yes (d i) h) in omega arith)
      (λ h. sym (lowest-none p n (λ i l. decided-no (p i) (d i) (h i l))))
      (decides_eqb (lowest p n) n)

  -- one is counted
  pub decides-count : Decides (ltb 0 (count_to p n)) ((i : ℕ) × (i < n) × P i)
  decides-count =
      decides-iff
      (λ c. let l = count_to-found p n c in (lowest p n, l, (d (lowest p n)).right (true-T (p (lowest p n)) (lowest-hit p n l))))
      (λ h. count_to-some p n h.0 h.1 (decided-yes (d h.0) h.2))
      (decides_ltb 0 (count_to p n))

-- ---- the first that fails

-- where each test holds, none fails
pub first_fail-none : (k : ℕ) (l : List Bool) → ((j : ℕ) → j < length l → T (get_or l j false)) → first_fail k l ≡ 0
unfolding first_fail
first_fail-none k [] h = refl
first_fail-none k (true ∷ l) h = first_fail-none (suc k) l (λ j lt. h (suc j) (omega arith))
first_fail-none k (false ∷ l) h = absurd (h 0 (omega arith))

-- test i of the list is the first that fails
pub record FailsAt (l : List Bool) (i : ℕ) : Type 0 where
  pub inside : i < length l
  pub before : (j : ℕ) → j < i → T (get_or l j false)
  pub fails : T (get_or l i false) → ⊥

pub first_fail-some : (k : ℕ) (l : List Bool) → first_fail k l ≢ 0 → (i : ℕ) × (first_fail k l ≡ k + i) × FailsAt l i
unfolding first_fail
first_fail-some k [] n = absurd (n refl)
first_fail-some k (true ∷ l) n =
    let r = first_fail-some (suc k) l n in (
      suc r.0,
      omega (arith, r.1),
      record {
        inside = omega (arith, r.2.inside);
        before = λ j. elim j as (λ (x : ℕ). x < suc r.0 → T (get_or {A = Bool} (true ∷ l) x false)) [ zero ↦ λ lt. tt | suc m ↦ λ lt. r.2.before m (omega arith) ];
        fails = r.2.fails;
      },
    )
first_fail-some k (false ∷ l) n = (0, omega arith, record { inside = omega arith; before = λ j lt. absurd (omega arith); fails = λ x. x })
