-- The laws of sums, tests and counts below a bound; the pigeonhole.
use mathlib.Core.Path.{◌≡◌, refl, sym, ap, ap₂, ◌∙◌, subst}
use mathlib.Core.Logic.{◌≢◌, ⊎_elim}
use mathlib.Core.Bool.{Bool, true, false, ◌&&◌}
use Prim.Native.Nat.{ℕ, zero, suc, ◌+◌, ◌≤◌, ◌<◌}
use native.Mathlib.Nat.{eq-or-lt_of_le, le_of_suc-le-suc}
use native.Mathlib.Numerals.{add-one}
use native.Mathlib.Omega.{arith}
use native.Mathlib.Decide.{ℕ_discrete}
use borrow.Author.Tests.{eq-eqb, ne_eqb}
use Rattle.base.specs.Count.{sum_to, all_to, count_to, bit, ind}
use Rattle.base.proofs.Bools.{and_parts, and-false}
use Rattle.base.proofs.Numbers.{below_suc}

-- ---- sums

pub sum_to-suc : (f : ℕ → ℕ) (n : ℕ) → sum_to f (suc n) ≡ sum_to f n + f n
unfolding sum_to
sum_to-suc f n = refl

-- one more turn, as a loop counts
pub sum_to-more : (f : ℕ → ℕ) (n : ℕ) → sum_to f (n + 1) ≡ sum_to f n + f n
sum_to-more f n = rw add-one (sum_to-suc f n)

pub sum_to-cong : (f g : ℕ → ℕ) (n : ℕ) → ((i : ℕ) → i < n → f i ≡ g i) → sum_to f n ≡ sum_to g n
unfolding sum_to
sum_to-cong f g zero h = refl
sum_to-cong f g (suc n) h = omega (arith, h n (omega arith), sum_to-cong f g n (λ i l. h i (omega arith)))

-- f and g differ at k alone
pub sum_to-change : (f g : ℕ → ℕ) (n k : ℕ) → k < n → ((i : ℕ) → i ≢ k → f i ≡ g i) → sum_to g n + f k ≡ sum_to f n + g k
unfolding sum_to
sum_to-change f g zero k l h = omega arith
sum_to-change f g (suc n) k l h =
    elim (ℕ_discrete n k) [ yes e ↦ omega (arith, ap f e, ap g e, sum_to-cong f g n (λ i j. h i (omega arith))) | no ne ↦ omega (arith, sum_to-change f g n k (omega arith) h, h n ne) ]

pub sum_to-le : (f g : ℕ → ℕ) (n : ℕ) → ((i : ℕ) → i < n → f i ≤ g i) → sum_to f n ≤ sum_to g n
unfolding sum_to
sum_to-le f g zero h = omega arith
sum_to-le f g (suc n) h = omega (arith, h n (omega arith), sum_to-le f g n (λ i l. h i (omega arith)))

pub sum_to-add : (f g : ℕ → ℕ) (n : ℕ) → sum_to (λ i. f i + g i) n ≡ sum_to f n + sum_to g n
unfolding sum_to
sum_to-add f g zero = refl
sum_to-add f g (suc n) = omega (arith, sum_to-add f g n)

pub sum_to-zero : (n : ℕ) → sum_to (λ i. 0) n ≡ 0
unfolding sum_to
sum_to-zero zero = refl
sum_to-zero (suc n) = omega (arith, sum_to-zero n)

pub sum_to-one : (n : ℕ) → sum_to (λ i. 1) n ≡ n
unfolding sum_to
sum_to-one zero = refl
sum_to-one (suc n) = omega (arith, sum_to-one n)

-- a part is at most the whole
pub sum_to-part : (f : ℕ → ℕ) (n k : ℕ) → k < n → f k ≤ sum_to f n
unfolding sum_to
sum_to-part f zero k l = omega arith
sum_to-part f (suc n) k l = elim (ℕ_discrete n k) [ yes e ↦ omega (arith, ap f e) | no ne ↦ omega (arith, sum_to-part f n k (omega arith)) ]

-- the first m and the n after them
pub sum_to-join : (f : ℕ → ℕ) (m n : ℕ) → sum_to f (m + n) ≡ sum_to f m + sum_to (λ i. f (m + i)) n
unfolding sum_to
sum_to-join f m zero = ap (sum_to f) (let e : m + 0 ≡ m = omega arith in e) ∙ omega arith
sum_to-join f m (suc n) =
    let e : m + suc n ≡ suc (m + n) = omega arith in
    ap (sum_to f) e ∙ sum_to-suc f (m + n) ∙ omega (arith, sum_to-join f m n)

pub sum_to-swap : (f : ℕ → ℕ → ℕ) (n m : ℕ) → sum_to (λ i. sum_to (λ j. f i j) m) n ≡ sum_to (λ j. sum_to (λ i. f i j) n) m
sum_to-swap f zero m = unfold sum_to in sym (sum_to-zero m)
sum_to-swap f (suc n) m =
    sum_to-suc (λ i. sum_to (λ j. f i j) m) n
    ∙ ap (λ (x : ℕ). x + sum_to (λ j. f n j) m) (sum_to-swap f n m)
    ∙ sym (sum_to-add (λ j. sum_to (λ i. f i j) n) (λ j. f n j) m)
    ∙ sum_to-cong (λ j. sum_to (λ i. f i j) n + f n j) (λ j. sum_to (λ i. f i j) (suc n)) m (λ j l. sym (sum_to-suc (λ i. f i j) n))

-- ---- the indicator, and the pigeonhole

pub ind-same : (i : ℕ) → ind i i ≡ 1
unfolding ind
ind-same i = rw (eq-eqb i i refl)

pub ind-other : (i j : ℕ) → i ≢ j → ind i j ≡ 0
unfolding ind
ind-other i j h = rw (ne_eqb i j h)

pub ind-le : (i j : ℕ) → ind i j ≤ 1
ind-le i j = elim (ℕ_discrete i j) [ yes e ↦ rw (e, ind-same) (omega arith) | no n ↦ rw (ind-other i j n) (omega arith) ]

-- one place alone has a 1
pub sum_to-ind : (n k : ℕ) → k < n → sum_to (λ i. ind k i) n ≡ 1
sum_to-ind n k l = omega (arith, sum_to-change (λ i. 0) (λ i. ind k i) n k l (λ i ne. sym (ind-other k i (λ e. ne (sym e)))), sum_to-zero n, ind-same k)

sum_to-few : (n : ℕ) (f : ℕ → ℕ) (y : ℕ) → ((i j : ℕ) → i < n → j < n → f i ≡ f j → i ≡ j) → sum_to (λ i. ind (f i) y) n ≤ 1
unfolding sum_to
sum_to-few zero f y h = omega arith
sum_to-few (suc n) f y h =
    elim (ℕ_discrete (f n) y) [
      | yes e ↦
          omega (
            arith,
            ind-le (f n) y,
            sum_to-cong (λ i. ind (f i) y) (λ i. 0) n (λ i l. ind-other (f i) y (λ q. let z : i ≡ n = h i n (omega arith) (omega arith) (q ∙ sym e) in omega arith)),
            sum_to-zero n,
          )
      | no ne ↦ omega (arith, ind-other (f n) y ne, sum_to-few n f y (λ i j a b. h i j (omega arith) (omega arith)))
    ]

-- n things in m places, no two in one: n is at most m
pub pigeon : (n m : ℕ) (f : ℕ → ℕ) → ((i : ℕ) → i < n → f i < m) → ((i j : ℕ) → i < n → j < n → f i ≡ f j → i ≡ j) → n ≤ m
pigeon n m f lo inj =
    omega (
      arith,
      sum_to-swap (λ i j. ind (f i) j) n m,
      sum_to-cong (λ i. sum_to (λ j. ind (f i) j) m) (λ i. 1) n (λ i l. sum_to-ind m (f i) (lo i l)),
      sum_to-one n,
      sum_to-le (λ j. sum_to (λ i. ind (f i) j) n) (λ j. 1) m (λ j l. sum_to-few n f j inj),
      sum_to-one m,
    )

-- ---- tests of all

pub all_to-more : (p : ℕ → Bool) (n : ℕ) → all_to p n ≡ true → p n ≡ true → all_to p (n + 1) ≡ true
unfolding all_to
all_to-more p n h k = rw (add-one, h) k

-- one that fails fails all
pub all_to-false : (p : ℕ → Bool) (n i : ℕ) → i < n → p i ≡ false → all_to p n ≡ false
unfolding all_to
all_to-false p zero i h e = absurd (omega arith)
all_to-false p (suc n) i h e =
    ⊎_elim
    (λ q. ap (λ (b : Bool). all_to p n && b) (subst (λ (j : ℕ). p j ≡ false) q e) ∙ and-false (all_to p n))
    (λ q. ap (λ (b : Bool). b && p n) (all_to-false p n i q e))
    (eq-or-lt_of_le (le_of_suc-le-suc h))

pub all_to-cong : (p q : ℕ → Bool) (n : ℕ) → ((j : ℕ) → j < n → p j ≡ q j) → all_to p n ≡ all_to q n
unfolding all_to
all_to-cong p q zero h = refl
all_to-cong p q (suc n) h = ap₂ (λ (x y : Bool). x && y) (all_to-cong p q n (λ j l. h j (omega arith))) (h n (omega arith))

-- what a test of all says of each
pub all_to-true : (p : ℕ → Bool) (n : ℕ) → all_to p n ≡ true → (j : ℕ) → j < n → p j ≡ true
unfolding all_to
all_to-true p zero e j l = absurd (omega arith)
all_to-true p (suc n) e j l = below_suc (λ (j : ℕ). p j ≡ true) n (all_to-true p n (and_parts (all_to p n) (p n) e).0) (and_parts (all_to p n) (p n) e).1 j l

pub all_to-all : (p : ℕ → Bool) (n : ℕ) → ((j : ℕ) → j < n → p j ≡ true) → all_to p n ≡ true
unfolding all_to
all_to-all p zero h = refl
all_to-all p (suc n) h = rw (all_to-all p n (λ j l. h j (omega arith))) (h n (omega arith))

-- ---- counts

pub count_to-more : (p : ℕ → Bool) (n : ℕ) → count_to p (n + 1) ≡ count_to p n + bit (p n)
unfolding count_to
count_to-more p n = sum_to-more (λ i. bit (p i)) n

pub count_to-cong : (p q : ℕ → Bool) (n : ℕ) → ((j : ℕ) → j < n → p j ≡ q j) → count_to p n ≡ count_to q n
unfolding count_to
count_to-cong p q n h = sum_to-cong (λ i. bit (p i)) (λ i. bit (q i)) n (λ i l. ap bit (h i l))

-- p and q differ at k alone
pub count_to-change : (p q : ℕ → Bool) (n k : ℕ) → k < n → ((j : ℕ) → j ≢ k → p j ≡ q j) → count_to q n + bit (p k) ≡ count_to p n + bit (q k)
unfolding count_to
count_to-change p q n k l h = sum_to-change (λ i. bit (p i)) (λ i. bit (q i)) n k l (λ i ne. ap bit (h i ne))

pub count_to-none : (p : ℕ → Bool) (n : ℕ) → ((j : ℕ) → j < n → p j ≡ false) → count_to p n ≡ 0
unfolding count_to
count_to-none p n h = sum_to-cong (λ i. bit (p i)) (λ i. 0) n (λ i l. ap bit (h i l)) ∙ sum_to-zero n

pub bit_le : (b : Bool) → bit b ≤ 1
bit_le true = omega arith
bit_le false = omega arith

pub count_to-le : (p : ℕ → Bool) (n : ℕ) → count_to p n ≤ n
unfolding count_to
count_to-le p n = omega (arith, sum_to-le (λ i. bit (p i)) (λ i. 1) n (λ i l. bit_le (p i)), sum_to-one n)
