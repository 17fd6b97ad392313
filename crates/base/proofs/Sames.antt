-- More laws of tests: tests of one statement, tests of two lists, tests of all, and the highest below a bound.
use mathlib.Core.Path.{◌≡◌, refl, sym, ap, ◌∙◌}
use mathlib.Core.Bool.{Bool, true, false, ◌&&◌, ◌||◌}
use mathlib.Core.List.{List}
use mathlib.Core.Logic.{⊎_elim}
use Prim.Native.Nat.{ℕ, zero, suc, ◌+◌, ◌-◌, ◌≤◌, ◌<◌}
use native.Mathlib.Nat.{eq-or-lt_of_le}
use native.Mathlib.Numerals.{add-one}
use native.Mathlib.Omega.{arith}
use native.Mathlib.Decide.{ℕ_discrete}
use lib.Bits.{bit_or, or_add_and, and_le_l, and_le_r}
use lib.Dec.{T, eqb}
use lib.ListN.{length, get_or}
use lib.Seq.{ext_get_or}
use borrow.Author.Tests.{eq-eqb, ne_eqb}
use Rattle.base.specs.Count.{all_to}
use Rattle.base.specs.Decides.{Decides, every, same}
use Rattle.base.specs.Search.{last}
use Rattle.base.proofs.Bools.{same_bool, T_true, true-T, true-false}
use Rattle.base.proofs.Numbers.{lt-or-le}
use Rattle.base.proofs.Searches.{Last, last-is}
use Rattle.base.proofs.Tests.{decides-true, decides-every, decides-all, decides-same}

-- ---- tests

pub and-true : (b : Bool) → (b && true) ≡ b
and-true true = refl
and-true false = refl

-- two tests of one statement
pub decides-both : {a b : Bool} {P : Type 0} → Decides a P → Decides b P → a ≡ b
decides-both {a} {b} p q = same_bool a b (λ e. T_true b (q.left (p.right (true-T a e)))) (λ e. T_true a (p.left (q.right (true-T b e))))

-- one or the other: the other, unless the one
pub decides-unless : {a b : Bool} {P Q : Type 0} → Decides a P → Decides b Q → Decides (a || b) ((P → ⊥) → Q)
decides-unless {a} {b} {P} {Q} p q = record { right = go a p.right; left = back a p.left }
  where
    go : (c : Bool) → (T c → P) → T (c || b) → (P → ⊥) → Q
    go true r t n = absurd (n (r tt))
    go false r t n = q.right t

    back : (c : Bool) → (P → T c) → ((P → ⊥) → Q) → T (c || b)
    back true l h = tt
    back false l h = q.left (h (λ p. l p))

-- ---- tests of all below a bound

pub all_to-suc : (p : ℕ → Bool) (n : ℕ) → all_to p (n + 1) ≡ (all_to p n && p n)
unfolding all_to
all_to-suc p n = rw add-one

and-swap : (a b c d : Bool) → ((a && b) && (c && d)) ≡ ((a && c) && (b && d))
and-swap true true c d = refl
and-swap true false true d = refl
and-swap true false false d = refl
and-swap false b c d = refl

pub all_to-and : (p q : ℕ → Bool) (n : ℕ) → all_to (λ i. p i && q i) n ≡ (all_to p n && all_to q n)
unfolding all_to
all_to-and p q zero = refl
all_to-and p q (suc n) = ap (λ (b : Bool). b && (p n && q n)) (all_to-and p q n) ∙ and-swap (all_to p n) (all_to q n) (p n) (q n)

-- all of a list, by index
pub every-all_to : (p : ℕ → Bool) (l : List ℕ) → every p l ≡ all_to (λ i. p (get_or l i 0)) (length l)
every-all_to p l =
    decides-both (decides-every 0 p (λ x. p x ≡ true) (λ x. decides-true (p x)) l)
    (decides-all (length l) (λ i. p (get_or l i 0)) (λ i. p (get_or l i 0) ≡ true) (λ i h. decides-true (p (get_or l i 0))))

-- ---- bits

-- the bits of two numbers joined are none where neither has any
pub or-zero : (a b : ℕ) → eqb (bit_or a b) 0 ≡ (eqb a 0 && eqb b 0)
or-zero a b = elim (ℕ_discrete a 0) [
  | yes x ↦ rw (eq-eqb a 0 x) (elim (ℕ_discrete b 0) [
    | yes y ↦ eq-eqb (bit_or a b) 0 (omega (arith, or_add_and a b)) ∙ sym (eq-eqb b 0 y)
    | no y ↦ ne_eqb (bit_or a b) 0 (λ e. y (omega (arith, or_add_and a b, and_le_l a b))) ∙ sym (ne_eqb b 0 y)
  ])
  | no x ↦ rw (ne_eqb a 0 x) (ne_eqb (bit_or a b) 0 (λ e. x (omega (arith, or_add_and a b, and_le_r a b))))
]

-- ---- the highest below a bound

pub last_one : (p : ℕ → Bool) (n r : ℕ) → Last p n r → r ≡ last p n
last_one p n r R = ⊎_elim less more (lt-or-le r (last p n))
  where
    S : Last p n (last p n)
    S = last-is p n

    pick-hit : (t : ℕ) → Last p n t → 0 < t → p (t - 1) ≡ true
    pick-hit t L h = L.hit (t - 1) (omega arith)

    less : r < last p n → r ≡ last p n
    less l = absurd (true-false (pick-hit (last p n) S (omega arith)) (R.after (last p n - 1) (omega arith) (omega (arith, S.most))))

    more : last p n ≤ r → r ≡ last p n
    more g = ⊎_elim (λ (e : last p n ≡ r). sym e) (λ l. absurd (true-false (pick-hit r R (omega arith)) (S.after (r - 1) (omega arith) (omega (arith, R.most))))) (eq-or-lt_of_le g)

-- a test that can't pass fails
pub test-fails : (b : Bool) → (b ≡ true → ⊥) → b ≡ false
test-fails true n = absurd (n refl)
test-fails false n = refl

pub or_no : (b : Bool) → (b || false) ≡ b
or_no true = refl
or_no false = refl

-- ---- tests that decide, and two lists

-- a test that decides a statement is true where it holds, and false where it does not
pub decided-yes : {b : Bool} {P : Type 0} → Decides b P → P → b ≡ true
decided-yes {b} d p = T_true b (d.left p)

pub decided-no : (b : Bool) {P : Type 0} → Decides b P → (P → ⊥) → b ≡ false
decided-no true d n = absurd (n (d.right tt))
decided-no false d n = refl

-- two lists, of one length and with the same elements; of two lengths; with two elements at one place
pub same-all : (l m : List ℕ) → length l ≡ length m → ((i : ℕ) → i < length l → get_or l i 0 ≡ get_or m i 0) → same l m ≡ true
same-all l m e h = decided-yes (decides-same l m) (ext_get_or 0 l m e h)

pub same_length : (l m : List ℕ) → (length l ≡ length m → ⊥) → same l m ≡ false
same_length l m n = decided-no (same l m) (decides-same l m) (λ e. n (ap length e))

pub same-but : (l m : List ℕ) (i : ℕ) → (get_or l i 0 ≡ get_or m i 0 → ⊥) → same l m ≡ false
same-but l m i n = decided-no (same l m) (decides-same l m) (λ e. n (ap (λ (x : List ℕ). get_or x i 0) e))

pub same_true : (l m : List ℕ) → same l m ≡ true → l ≡ m
same_true l m e = (decides-same l m).right (true-T (same l m) e)

pub same-own : (l m : List ℕ) → l ≡ m → same l m ≡ true
same-own l m e = T_true (same l m) ((decides-same l m).left e)

pub same_false : (l m : List ℕ) → (l ≡ m → ⊥) → same l m ≡ false
same_false l m n = go (same l m) refl
  where
    go : (b : Bool) → same l m ≡ b → same l m ≡ false
    go true e = absurd (n (same_true l m e))
    go false e = e
