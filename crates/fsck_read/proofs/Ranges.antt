-- `all` over a range of numbers: what it answers is the test of all numbers below a bound.
use mathlib.Core.Path.{◌≡◌, sym, ap, ◌∙◌}
use mathlib.Core.Bool.{Bool, true, false}
use mathlib.Core.List.{List}
use Prim.Native.Nat.{ℕ, ◌+◌, ◌-◌, ◌<◌}
use native.Mathlib.Omega.{arith}
use lib.ListN.{length, get_or}
use denote.Param.Members.{Mut}
use Rattle.std.proofs.iter.Yields.{nat_range_steps}
use Rattle.std.proofs.lemmas.Iterator.{cases_from_all, YieldsList-from_range}
use Rattle.std.proofs.lemmas.List.FromFn.{length-range_with_len, get_or-range_with_len}
use Rattle.std.specs.Bool.{MatchBool}
use Rattle.std.specs.Fn.{Called}
use Rattle.std.specs.Iterator.{YieldsThen}
use Rattle.std.specs.List.{range_with_len, FoldsTo, AllWithin, HoldsAt}
use Rattle.std.specs.Option.{MatchOption}
use Rattle.std.specs.Prelude.{Option}
use Rattle.std.specs.declared.ops.Range.{Range}
use Rattle.base.specs.Count.{all_to}
use Rattle.base.proofs.Counts.{all_to-all, all_to-false}

module _ (p q : ℕ → Bool) (lo n : ℕ) (same : (i : ℕ) → q (lo + i) ≡ p i) where
  nth : (i : ℕ) → i < n → p i ≡ q (get_or (range_with_len lo n) i 0)
  nth i l = sym (ap q (get_or-range_with_len lo n i 0 l) ∙ same i)

  each : (r : Bool) → MatchBool r (AllWithin (λ x. q x ≡ true) (range_with_len lo n) 0 (length (range_with_len lo n))) ((k : ℕ) × (k < length (range_with_len lo n)) × HoldsAt (λ x. q x ≡ false) (range_with_len lo n) k)
      → r ≡ all_to p n
  each true h =
      sym (all_to-all p n (λ k l. let z : k < length (range_with_len lo n) = omega (arith, length-range_with_len lo n) in nth k l ∙ h k 0 (omega arith) z))
  each false h =
      let l : h.0 < n = omega (arith, length-range_with_len lo n, h.1) in
      sym (all_to-false p n h.0 l (nth h.0 l ∙ h.2 0))

  pub all-range : {F : Type 0} {g : Mut F (ℕ × Unit {0}) Bool} (s u : Range ℕ) (f : F) (r : Bool)
      → (xs : List ℕ) × (o : Option ℕ) × (j : F) × YieldsThen nat_range_steps s xs o u × FoldsTo (λ p x q. Called g p (x, tt) true q) f xs j × MatchOption o (r ≡ true) (λ x. (r ≡ false) × ((h : F) × Called g j (x, tt) false h))
      → (hi : ℕ) → s ≡ record { start = lo; end = hi } → hi - lo ≡ n
      → ((x : ℕ) (h : F) → Called g f (x, tt) true h → (h ≡ f) × (q x ≡ true)) → ((x : ℕ) (h : F) → Called g f (x, tt) false h → q x ≡ false)
      → r ≡ all_to p n
  all-range s u f r ran hi e len hit miss =
      each r (cases_from_all u f r (λ x. q x ≡ true) (λ x. q x ≡ false) ran (YieldsList-from_range lo hi n e len) hit miss)

-- the same from 0 on
pub all-below : (p : ℕ → Bool) (n : ℕ) {F : Type 0} {g : Mut F (ℕ × Unit {0}) Bool} (s u : Range ℕ) (f : F) (r : Bool)
    → (xs : List ℕ) × (o : Option ℕ) × (j : F) × YieldsThen nat_range_steps s xs o u × FoldsTo (λ p x q. Called g p (x, tt) true q) f xs j × MatchOption o (r ≡ true) (λ x. (r ≡ false) × ((h : F) × Called g j (x, tt) false h))
    → s ≡ record { start = 0; end = n }
    → ((x : ℕ) (h : F) → Called g f (x, tt) true h → (h ≡ f) × (p x ≡ true)) → ((x : ℕ) (h : F) → Called g f (x, tt) false h → p x ≡ false)
    → r ≡ all_to p n
all-below p n s u f r ran e = all-range p p 0 n (λ i. ap p (let z : 0 + i ≡ i = omega arith in z)) s u f r ran n e (omega arith)
