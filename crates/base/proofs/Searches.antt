-- The laws of the search.
use mathlib.Core.Path.{◌≡◌, refl, ◌∙◌, sym, subst}
use mathlib.Core.Bool.{Bool, true, false, cond, true≢false}
use mathlib.Core.Logic.{⊎_elim, ◌≢◌}
use Prim.Native.Nat.{ℕ, zero, suc, ◌+◌, ◌≤◌, ◌<◌, zero-le}
use native.Mathlib.Nat.{eq-or-lt_of_le, le_of_suc-le-suc}
use native.Mathlib.Numerals.{add-one}
use native.Mathlib.Omega.{arith}
use lib.Dec.{ltb}
use borrow.Author.Tests.{lt-ltb, le-ltb, eq-eqb, ne_eqb}
use Rattle.base.specs.Count.{count_to}
use Rattle.base.specs.Search.{lowest, last, upd, found_below}
use Rattle.std.specs.Prelude.{Some, None}
use Rattle.base.proofs.Numbers.{lt-or-le, below_suc}
use Rattle.base.proofs.Counts.{count_to-none}

-- r is the lowest below n that has p, or n
pub record First (p : ℕ → Bool) (n r : ℕ) : Type 0 where
  pub most : r ≤ n
  pub before : (j : ℕ) → j < r → p j ≡ false
  pub hit : r < n → p r ≡ true

-- there is one such number
pub first_one : (p : ℕ → Bool) (n r s : ℕ) → First p n r → First p n s → r ≡ s
first_one p n r s R S =
    ⊎_elim
    (λ l. absurd (true≢false (sym (R.hit (omega (arith, S.most))) ∙ S.before r l)))
    (λ g. ⊎_elim
    (λ (e : s ≡ r). sym e)
    (λ l. absurd (true≢false (sym (S.hit (omega (arith, R.most))) ∙ R.before s l)))
    (eq-or-lt_of_le g))
    (lt-or-le r s)

first-last : (p : ℕ → Bool) (n : ℕ) (b : Bool) → p n ≡ b → ((j : ℕ) → j < n → p j ≡ false) → First p (suc n) (cond b n (suc n))
first-last p n true e h = record { most = omega arith; before = h; hit = λ _. e }
first-last p n false e h = record { most = omega arith; before = below_suc (λ (j : ℕ). p j ≡ false) n h e; hit = λ l. absurd (omega arith) }

first_step : (p : ℕ → Bool) (n r : ℕ) → First p n r → First p (suc n) (cond (ltb r n) r (cond (p n) n (suc n)))
first_step p n r F =
    ⊎_elim
    (λ l. rw (lt-ltb r n l) (record { most = omega (arith, F.most); before = F.before; hit = λ _. F.hit l }))
    (λ g.
    let e : r ≡ n = omega (arith, F.most) in
    rw (le-ltb r n g) (first-last p n (p n) refl (subst (λ (m : ℕ). (j : ℕ) → j < m → p j ≡ false) e F.before)))
    (lt-or-le r n)

pub lowest-first : (p : ℕ → Bool) (n : ℕ) → First p n (lowest p n)
unfolding lowest
lowest-first p zero = record { most = zero-le; before = λ j l. absurd (omega arith); hit = λ l. absurd (omega arith) }
lowest-first p (suc n) = first_step p n (lowest p n) (lowest-first p n)

-- what a search shows of its result
pub first-is : (p : ℕ → Bool) (n r : ℕ) → First p n r → r ≡ lowest p n
first-is p n r F = first_one p n r (lowest p n) F (lowest-first p n)

-- a loop that stops at k, and one that passed all
pub lowest-here : (p : ℕ → Bool) (n k : ℕ) → k < n → ((j : ℕ) → j < k → p j ≡ false) → p k ≡ true → k ≡ lowest p n
lowest-here p n k l before hit = first-is p n k (record { most = omega arith; before = before; hit = λ _. hit })

pub lowest-none : (p : ℕ → Bool) (n : ℕ) → ((j : ℕ) → j < n → p j ≡ false) → n ≡ lowest p n
lowest-none p n before = first-is p n n (record { most = omega arith; before = before; hit = λ l. absurd (omega arith) })

pub lowest-le : (p : ℕ → Bool) (n : ℕ) → lowest p n ≤ n
lowest-le p n = (lowest-first p n).most

pub lowest-hit : (p : ℕ → Bool) (n : ℕ) → lowest p n < n → p (lowest p n) ≡ true
lowest-hit p n = (lowest-first p n).hit

-- one that has p: the lowest is at most it
pub lowest-at-most : (p : ℕ → Bool) (n j : ℕ) → j < n → p j ≡ true → lowest p n ≤ j
lowest-at-most p n j l e = ⊎_elim (λ h. absurd (true≢false (sym e ∙ (lowest-first p n).before j h))) (λ g. g) (lt-or-le j (lowest p n))

-- the same search where the tests agree
pub lowest-cong : (p q : ℕ → Bool) (n : ℕ) → ((j : ℕ) → j < n → p j ≡ q j) → lowest p n ≡ lowest q n
lowest-cong p q n h =
    let F = lowest-first p n in
    first-is q n (lowest p n) (record {
      most = F.most;
      before = λ j l. sym (h j (omega (arith, F.most))) ∙ F.before j l;
      hit = λ l. sym (h (lowest p n) l) ∙ F.hit l;
    })

pub count_to-found : (p : ℕ → Bool) (n : ℕ) → 0 < count_to p n → lowest p n < n
count_to-found p n l =
    let F = lowest-first p n in
    ⊎_elim (λ h. h) (λ g. absurd (let z : count_to p n ≡ 0 = count_to-none p n (λ j m. F.before j (omega (arith, F.most))) in omega arith)) (lt-or-le (lowest p n) n)

-- ---- the answer to match on

pub found_at : (k n : ℕ) → k < n → found_below k n ≡ Some k
unfolding found_below
found_at k n l = rw (lt-ltb k n l)

pub found_nothing : (k n : ℕ) → n ≤ k → found_below k n ≡ None
unfolding found_below
found_nothing k n l = rw (le-ltb k n l)

-- what a match on it tells
pub at-found : (k n i : ℕ) → found_below k n ≡ Some i → (i ≡ k) × (i < n)
at-found k n i e =
    ⊎_elim
    (λ l. let f : Some k ≡ Some i = sym (found_at k n l) ∙ e in let q : k ≡ i = cc in (sym q, omega arith))
    (λ g. let f : None ≡ Some i = sym (found_nothing k n g) ∙ e in absurd (let z : ◌≡◌ {A = ℕ} 0 1 = cc in omega arith))
    (lt-or-le k n)

pub nothing-found : (k n : ℕ) → found_below k n ≡ None → n ≤ k
nothing-found k n e =
    ⊎_elim
    (λ l. let f : Some k ≡ None = sym (found_at k n l) ∙ e in absurd (let z : ◌≡◌ {A = ℕ} 0 1 = cc in omega arith))
    (λ g. g)
    (lt-or-le k n)

-- ---- the highest

-- r is one more than the highest below n that has p, or 0
pub record Last (p : ℕ → Bool) (n r : ℕ) : Type 0 where
  pub most : r ≤ n
  pub hit : (j : ℕ) → r ≡ suc j → p j ≡ true
  pub after : (j : ℕ) → r ≤ j → j < n → p j ≡ false

last_step : (p : ℕ → Bool) (n r : ℕ) (t : Bool) → p n ≡ t → Last p n r → Last p (suc n) (cond t (suc n) r)
last_step p n r true e L = record {
  most = omega arith;
  hit = λ j x. let y : n ≡ j = omega arith in subst (λ (i : ℕ). p i ≡ true) y e;
  after = λ j g l. absurd (omega arith);
}
last_step p n r false e L = record {
  most = omega (arith, L.most);
  hit = L.hit;
  after = λ j g l. ⊎_elim (λ (x : j ≡ n). subst (λ (i : ℕ). p i ≡ false) (sym x) e) (λ m. L.after j g m) (eq-or-lt_of_le (le_of_suc-le-suc l));
}

pub last-is : (p : ℕ → Bool) (n : ℕ) → Last p n (last p n)
unfolding last
last-is p zero = record { most = zero-le; hit = λ j x. absurd (omega arith); after = λ j g l. absurd (omega arith) }
last-is p (suc n) = last_step p n (last p n) (p n) refl (last-is p n)

pub last-no : (p : ℕ → Bool) (n : ℕ) → p n ≡ false → last p (n + 1) ≡ last p n
unfolding last
last-no p n e = rw (add-one, e) refl

pub last-yes : (p : ℕ → Bool) (n : ℕ) → p n ≡ true → last p (n + 1) ≡ n + 1
unfolding last
last-yes p n e = rw (add-one, e) refl

-- ---- a function changed at one place

pub upd_same : {A : Type 0} (f : ℕ → A) (k : ℕ) (x : A) → upd f k x k ≡ x
unfolding upd
upd_same f k x = rw (eq-eqb k k refl)

pub upd_other : {A : Type 0} (f : ℕ → A) (k : ℕ) (x : A) (i : ℕ) → i ≢ k → upd f k x i ≡ f i
unfolding upd
upd_other f k x i h = rw (ne_eqb i k h)
