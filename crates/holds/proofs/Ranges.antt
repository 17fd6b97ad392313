-- A test of every number of a range, as a chain makes it and as a count of tests says it.
use mathlib.Core.Path.{◌≡◌, refl, sym, ap, ◌∙◌}
use mathlib.Core.Bool.{Bool, true, false, ◌&&◌}
use Prim.Native.Nat.{ℕ, zero, suc, ◌+◌}
use native.Mathlib.Omega.{arith}
use Rattle.std.specs.List.{list_all, range_with_len}
use Rattle.base.specs.Count.{all_to}
use Rattle.base.proofs.Counts.{all_to-cong}

and-true : (b : Bool) → (true && b) ≡ (b && true)
and-true true = refl
and-true false = refl

and-assoc : (a b c : Bool) → ((a && b) && c) ≡ (a && (b && c))
and-assoc true b c = refl
and-assoc false b c = refl

-- the first test in front
all_to-front : (p : ℕ → Bool) (n : ℕ) → all_to p (suc n) ≡ (p 0 && all_to (λ i. p (suc i)) n)
unfolding all_to
all_to-front p zero = and-true (p 0)
all_to-front p (suc n) = ap (λ (b : Bool). b && p (suc n)) (all_to-front p n) ∙ and-assoc (p 0) (all_to (λ i. p (suc i)) n) (p (suc n))

in-range : (p : ℕ → Bool) (a n : ℕ) → list_all p (range_with_len a n) ≡ all_to (λ i. p (a + i)) n
unfolding all_to
in-range p a zero = refl
in-range p a (suc n) =
    let e : a + 0 ≡ a = omega arith in
    ap (λ (b : Bool). p a && b) (in-range p (a + 1) n ∙ all_to-cong (λ i. p (a + 1 + i)) (λ i. p (a + suc i)) n (λ i l. ap p (omega arith)))
    ∙ ap (λ (k : ℕ). p k && all_to (λ i. p (a + suc i)) n) (sym e)
    ∙ sym (all_to-front (λ i. p (a + i)) n)

-- the numbers from a on, tested by p, where q tests how far they are from a
pub all_in-range : (p q : ℕ → Bool) (a n : ℕ) → ((i : ℕ) → p (a + i) ≡ q i) → list_all p (range_with_len a n) ≡ all_to q n
all_in-range p q a n h = in-range p a n ∙ all_to-cong (λ i. p (a + i)) q n (λ i l. h i)

pub all_below : (p : ℕ → Bool) (n : ℕ) → list_all p (range_with_len 0 n) ≡ all_to p n
all_below p n = all_in-range p p 0 n (λ i. ap p (omega arith))
