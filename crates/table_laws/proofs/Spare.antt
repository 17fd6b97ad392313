-- "Two rows serve an operation's own openings": 32 holds leave two of the 34 rows free.
use Prim.Native.Nat.{ℕ, ◌+◌, ◌<◌, ◌≤◌}
use native.Mathlib.Omega.{arith}
use mathlib.Core.Path.{◌≡◌, sym, ◌∙◌, ap}
use mathlib.Core.Bool.{Bool, true, not, ◌&&◌, cond}
use mathlib.Core.Logic.{◌⊎◌, inl, inr, ⊎_elim}
use lib.Dec.{eqb, ltb}
use borrow.Author.Tests.{eqb-true, eqb-false, not-true, lt-ltb, le-ltb, eq-eqb, ne_eqb}
use Rattle.base.specs.Search.{lowest}
use Rattle.std.specs.Prelude.{Some}
use Rattle.base.proofs.Bools.{and_parts, and_both, true-false}
use Rattle.base.proofs.Counts.{pigeon}
use Rattle.base.proofs.Numbers.{lt-or-le}
use Rattle.base.proofs.Searches.{lowest-first, lowest-hit, lowest-at-most}
use Rattle.table.specs.declared.Table.{Table}
use Rattle.table.specs.Table.{row_at, hold_at, names_row, free_row}
use Rattle.table_laws.specs.Rules.{Holder, Formed, WellFormed}
use Rattle.table_laws.proofs.Finds.{row-there}

-- the numbers without k, in order
skip : ℕ → ℕ → ℕ
skip k i = cond (ltb i k) i (i + 1)

skip_is : (k i : ℕ) → ((i < k) × (skip k i ≡ i)) ⊎ ((k ≤ i) × (skip k i ≡ i + 1))
unfolding skip
skip_is k i = ⊎_elim (λ l. inl (l, rw (lt-ltb i k l))) (λ g. inr (g, rw (le-ltb i k g))) (lt-or-le i k)

skip_below : (k i : ℕ) → i < 33 → skip k i < 34
skip_below k i l = ⊎_elim (λ a. omega arith) (λ b. omega arith) (skip_is k i)

skip-apart : (k i : ℕ) → skip k i ≡ k → ⊥
skip-apart k i e = ⊎_elim (λ a. omega arith) (λ b. omega arith) (skip_is k i)

skip-one : (k i j : ℕ) → skip k i ≡ skip k j → i ≡ j
skip-one k i j e =
    ⊎_elim
    (λ a. ⊎_elim (λ b. omega arith) (λ b. omega arith) (skip_is k j))
    (λ a. ⊎_elim (λ b. omega arith) (λ b. omega arith) (skip_is k j))
    (skip_is k i)

-- a free row that is not k
pub record Free (t : Table) (k : ℕ) : Type 0 where
  pub at : ℕ
  pub is_row : at < 34
  pub apart : at ≡ k → ⊥
  pub free : (row_at t at).id ≡ 0

-- 33 rows cannot all be held by 32 holds
module _ (t : Table) (k : ℕ) (all : (j : ℕ) → j < 34 → (j ≡ k → ⊥) → Holder t j) where
  holder : ℕ → ℕ
  holder i = lowest (names_row t (skip k i)) 32

  found : (i : ℕ) → i < 33 → (holder i < 32) × ((hold_at t (holder i)).row ≡ skip k i)
  unfolding holder
  found i l =
      let o = all (skip k i) (skip_below k i l) (skip-apart k i) in
      let e : names_row t (skip k i) o.hold ≡ true = and_both (ap not (ne_eqb _ 0 o.live)) (eq-eqb _ _ o.names) in
      let b : holder i < 32 = omega (arith, lowest-at-most (names_row t (skip k i)) 32 o.hold o.is-hold e, o.is-hold) in
      (b, eqb-true _ _ (and_parts (not (eqb (hold_at t (holder i)).stamp 0)) (eqb (hold_at t (holder i)).row (skip k i)) (lowest-hit (names_row t (skip k i)) 32 b)).1)

  too_many : ⊥
  too_many =
      let p : 33 ≤ 32 = pigeon 33 32 holder (λ i l. (found i l).0) (λ i j a b e. skip-one k i j (sym (found i a).1 ∙ ap (λ (n : ℕ). (hold_at t n).row) e ∙ (found j b).1)) in
      omega arith

-- With k as the call's only own row, another row is free; with none, a row apart from any k.
pub free-apart : {own : ℕ → Type 0} (t : Table) (k : ℕ) → Formed own t → ((j : ℕ) → own j → j ≡ k) → Free t k
free-apart {own} t k w only = ⊎_elim (λ l. yes l) (λ g. absurd (too_many t k (all g))) (lt-or-le (lowest p 34) 34)
  where
    p : ℕ → Bool
    p j = eqb (row_at t j).id 0 && not (eqb j k)

    yes : lowest p 34 < 34 → Free t k
    yes l =
        let a = and_parts (eqb (row_at t (lowest p 34)).id 0) (not (eqb (lowest p 34) k)) (lowest-hit p 34 l) in
        record { at = lowest p 34; is_row = l; apart = eqb-false _ _ (not-true _ a.1); free = eqb-true _ _ a.0 }

    all : 34 ≤ lowest p 34 → (j : ℕ) → j < 34 → (j ≡ k → ⊥) → Holder t j
    all g j l d =
        let n : (row_at t j).id ≡ 0 → ⊥ = λ z. true-false (and_both (eq-eqb _ 0 z) (ap not (ne_eqb j k d))) ((lowest-first p 34).before j (omega arith)) in
        ⊎_elim (λ o. absurd (d (only j o))) (λ h. h) (w.held j l n)

-- while a call has at most one row of its own, the search for a free row finds one
pub spare-row : {own : ℕ → Type 0} (t : Table) (k : ℕ) → Formed own t → ((j : ℕ) → own j → j ≡ k) → (i : ℕ) × (free_row t ≡ Some i)
spare-row t k w only = let f = free-apart t k w only in row-there t 0 f.at f.is_row f.free

-- so it does between calls
pub first-spare : (t : Table) → WellFormed t → (i : ℕ) × (free_row t ≡ Some i)
first-spare t w = spare-row t 0 w (λ j o. absurd o)
