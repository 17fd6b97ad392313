-- Tests that decide statements: one combinator for each form, so that a checker's proof has the checker's own shape.
use mathlib.Core.Path.{◌≡◌, refl}
use mathlib.Core.Bool.{Bool, true, false, ◌&&◌, ◌||◌, not}
use mathlib.Core.List.{List, [], ◌∷◌}
use Prim.Native.Nat.{ℕ, zero, suc, ◌<◌, ◌≤◌}
use native.Mathlib.Omega.{arith}
use lib.Dec.{T, eqb, ltb, leb, eqb→eq, eqb_refl, ltb→lt, lt→ltb}
use lib.ListN.{length, get_or}
use borrow.Author.Tests.{le-leb, leb-true}
use Rattle.base.specs.Count.{all_to}
use Rattle.base.specs.Decides.{Decides, every, same, first_fail}
use Rattle.base.proofs.Bools.{true-T, T_true}
use Rattle.base.proofs.Counts.{all_to-true, all_to-all}

pub decides-true : (b : Bool) → Decides b (b ≡ true)
decides-true b = record { right = T_true b; left = true-T b }

pub decides-iff : {b : Bool} {P Q : Type 0} → (P → Q) → (Q → P) → Decides b P → Decides b Q
decides-iff f g d = record { right = λ t. f (d.right t); left = λ q. d.left (g q) }

pub decides_eqb : (m n : ℕ) → Decides (eqb m n) (m ≡ n)
decides_eqb m n = record { right = eqb→eq m n; left = λ e. rw e (eqb_refl n) }

pub decides_ltb : (m n : ℕ) → Decides (ltb m n) (m < n)
decides_ltb m n = record { right = ltb→lt m n; left = lt→ltb m n }

pub decides-leb : (m n : ℕ) → Decides (leb m n) (m ≤ n)
decides-leb m n = decides-iff (leb-true m n) (le-leb m n) (decides-true (leb m n))

pub and_split : (a b : Bool) → T (a && b) → T a × T b
and_split true b t = (tt, t)
and_split false b t = absurd t

pub and-join : (a b : Bool) → T a → T b → T (a && b)
and-join true b s t = t
and-join false b s t = absurd s

pub decides_and : {a b : Bool} {P Q : Type 0} → Decides a P → Decides b Q → Decides (a && b) (P × Q)
decides_and {a} {b} p q =
    record { right = λ t. let s = and_split a b t in (p.right s.0, q.right s.1); left = λ h. and-join a b (p.left h.0) (q.left h.1) }

pub decides_not : {a : Bool} {P : Type 0} → Decides a P → Decides (not a) (P → ⊥)
decides_not {a} {P} p = record { right = go a p.left; left = back a p.right }
  where
    go : (b : Bool) → (P → T b) → T (not b) → P → ⊥
    go true l t h = t
    go false l t h = l h

    back : (b : Bool) → (T b → P) → (P → ⊥) → T (not b)
    back true r h = h (r tt)
    back false r h = tt

-- an implication whose premise is tested
pub decides-if : {a b : Bool} {P Q : Type 0} → Decides a P → Decides b Q → Decides (not a || b) (P → Q)
decides-if {a} {b} {P} {Q} p q = record { right = go a p.left; left = back a p.right }
  where
    go : (c : Bool) → (P → T c) → T (not c || b) → P → Q
    go true l t h = q.right t
    go false l t h = absurd (l h)

    back : (c : Bool) → (T c → P) → (P → Q) → T (not c || b)
    back true r h = q.left (h (r tt))
    back false r h = tt

-- for all i below n
pub decides-all : (n : ℕ) (p : ℕ → Bool) (P : ℕ → Type 0) → ((i : ℕ) → i < n → Decides (p i) (P i)) → Decides (all_to p n) ((i : ℕ) → i < n → P i)
decides-all n p P h = record {
  right = λ t i l. (h i l).right (true-T (p i) (all_to-true p n (T_true (all_to p n) t) i l));
  left = λ f. true-T (all_to p n) (all_to-all p n (λ i l. T_true (p i) ((h i l).left (f i l))));
}

-- for all elements of a list
pub decides-every : {A : Type 0} (d : A) (p : A → Bool) (P : A → Type 0) → ((x : A) → Decides (p x) (P x)) → (l : List A) → Decides (every p l) ((k : ℕ) → k < length l → P (get_or l k d))
unfolding every
decides-every d p P h [] = record { right = λ t k l. absurd (omega arith); left = λ f. tt }
decides-every d p P h (x ∷ l) =
    let r = decides-every d p P h l in
    record {
      right = λ t k. let s = and_split (p x) (every p l) t in elim k as (λ j. j < length (x ∷ l) → P (get_or (x ∷ l) j d)) [ zero ↦ λ lt. (h x).right s.0 | suc j ↦ λ lt. r.right s.1 j (omega arith) ];
      left = λ f. and-join (p x) (every p l) ((h x).left (f 0 (omega arith))) (r.left (λ k lt. f (suc k) (omega arith)));
    }

pub decides-same : (l m : List ℕ) → Decides (same l m) (l ≡ m)
unfolding same
decides-same [] [] = record { right = λ t. refl; left = λ e. tt }
decides-same [] (y ∷ m) = record { right = λ t. absurd t; left = λ e. absurd (let z : ◌≡◌ {A = ℕ} 0 1 = cc in omega arith) }
decides-same (x ∷ l) [] = record { right = λ t. absurd t; left = λ e. absurd (let z : ◌≡◌ {A = ℕ} 0 1 = cc in omega arith) }
decides-same (x ∷ l) (y ∷ m) =
    let r = decides-same l m in
    record {
      right = λ t. let s = and_split (eqb x y) (same l m) t in let a = eqb→eq x y s.0 in let b = r.right s.1 in cc;
      left = λ e. and-join (eqb x y) (same l m) ((decides_eqb x y).left cc) (r.left cc);
    }

-- where no test fails, each holds
pub first_fail-zero : (k : ℕ) (l : List Bool) → 0 < k → first_fail k l ≡ 0 → (j : ℕ) → j < length l → T (get_or l j false)
unfolding first_fail
first_fail-zero k [] h e j lt = absurd (omega arith)
first_fail-zero k (true ∷ l) h e zero lt = tt
first_fail-zero k (true ∷ l) h e (suc j) lt = first_fail-zero (suc k) l (omega arith) e j (omega arith)
first_fail-zero k (false ∷ l) h e j lt = absurd (omega arith)
