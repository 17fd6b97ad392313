-- "Check answers pass or the lowest failing number": 0 exactly where all eight rules hold, and else the number of a rule that does not hold while
-- all below it do.
use mathlib.Core.Path.{◌≡◌, sym, subst, ◌∙◌}
use mathlib.Core.Bool.{Bool, false}
use mathlib.Core.List.{List, [], ◌∷◌}
use mathlib.Core.Logic.{◌≢◌}
use Prim.Native.Nat.{ℕ, zero, suc, ◌≤◌, ◌<◌}
use native.Mathlib.Omega.{arith}
use lib.Dec.{T}
use lib.ListN.{get_or}
use Rattle.base.specs.Decides.{Decides}
use Rattle.base.proofs.Numbers.{below_suc}
use Rattle.base.proofs.Tests.{first_fail-zero}
use Rattle.table.specs.declared.Table.{Table}
use Rattle.rules.specs.Rules.{Allowed, RuleAt}
use Rattle.rules.specs.Tests.{test1, test2, test3, test4, test5, test6, test7, test8, checked}
use Rattle.rules.proofs.General.{first_fail-none, first_fail-some}
use Rattle.rules.proofs.Metadata.{decides-1, decides-2, decides-3, decides-4}
use Rattle.rules.proofs.Files.{decides-5}
use Rattle.rules.proofs.Folders.{decides-6}
use Rattle.rules.proofs.Links.{decides-7}
use Rattle.rules.proofs.Climbs.{decides-8}

module _ (a : List ℕ) (t : Table) where
  abbrev tests : List Bool
  tests = test1 a ∷ test2 t ∷ test3 a ∷ test4 a t ∷ test5 a t ∷ test6 a t ∷ test7 a t ∷ test8 a t ∷ []

  -- each test decides the rule of its number, where the rules below hold
  decides_at : (i : ℕ) → i < 8 → ((r : ℕ) → r < suc i → RuleAt r a t) → Decides (get_or tests i false) (RuleAt (suc i) a t)
  unfolding RuleAt
  decides_at zero l h = decides-1 a
  decides_at (suc zero) l h = decides-2 t
  decides_at (suc (suc zero)) l h = decides-3 a
  decides_at (suc (suc (suc zero))) l h = decides-4 a t
  decides_at (suc (suc (suc (suc zero)))) l h = decides-5 a t
  decides_at (suc (suc (suc (suc (suc zero))))) l h = decides-6 a t
  decides_at (suc (suc (suc (suc (suc (suc zero)))))) l h = decides-7 a t
  decides_at (suc (suc (suc (suc (suc (suc (suc zero))))))) l h = decides-8 a t (h 3 (omega arith)) (h 4 (omega arith)) (h 5 (omega arith)) (h 7 (omega arith))
  decides_at (suc (suc (suc (suc (suc (suc (suc (suc i)))))))) l h = absurd (omega arith)

  -- where the first n tests pass, the first n rules hold
  rules-to : (n : ℕ) → n ≤ 8 → ((j : ℕ) → j < n → T (get_or tests j false)) → (r : ℕ) → r < suc n → RuleAt r a t
  unfolding RuleAt
  rules-to zero l h = below_suc (λ (r : ℕ). RuleAt r a t) 0 (λ r lt. absurd (omega arith)) tt
  rules-to (suc n) l h =
      let below : (r : ℕ) → r < suc n → RuleAt r a t = rules-to n (omega arith) (λ j lt. h j (omega arith)) in
      below_suc (λ (r : ℕ). RuleAt r a t) (suc n) below ((decides_at n (omega arith) below).right (h n (omega arith)))

  pub rule-of : Allowed a t → (r : ℕ) → RuleAt r a t
  unfolding RuleAt
  rule-of h zero = tt
  rule-of h (suc zero) = h.rule1
  rule-of h (suc (suc zero)) = h.rule2
  rule-of h (suc (suc (suc zero))) = h.rule3
  rule-of h (suc (suc (suc (suc zero)))) = h.rule4
  rule-of h (suc (suc (suc (suc (suc zero))))) = h.rule5
  rule-of h (suc (suc (suc (suc (suc (suc zero)))))) = h.rule6
  rule-of h (suc (suc (suc (suc (suc (suc (suc zero))))))) = h.rule7
  rule-of h (suc (suc (suc (suc (suc (suc (suc (suc zero)))))))) = h.rule8
  rule-of h (suc (suc (suc (suc (suc (suc (suc (suc (suc r))))))))) = tt

  -- a pass: all rules hold
  pub check-pass : checked a t ≡ 0 → Allowed a t
  unfolding checked RuleAt
  check-pass e =
      let rule : (r : ℕ) → r < 9 → RuleAt r a t = rules-to 8 (omega arith) (first_fail-zero 1 tests (omega arith) e) in
      record {
        rule1 = rule 1 (omega arith);
        rule2 = rule 2 (omega arith);
        rule3 = rule 3 (omega arith);
        rule4 = rule 4 (omega arith);
        rule5 = rule 5 (omega arith);
        rule6 = rule 6 (omega arith);
        rule7 = rule 7 (omega arith);
        rule8 = rule 8 (omega arith);
      }

  -- where all hold, it passes
  pub allowed-pass : Allowed a t → checked a t ≡ 0
  unfolding checked
  allowed-pass h = first_fail-none 1 tests (λ j l. (decides_at j l (λ r lt. rule-of h r)).left (rule-of h (suc j)))

  -- a number: all rules below it hold, and its rule does not
  pub check-fail : (r : ℕ) → checked a t ≡ r → r ≢ 0 → ((j : ℕ) → j < r → RuleAt j a t) × (RuleAt r a t → ⊥)
  unfolding checked
  check-fail r e n =
      let f = first_fail-some 1 tests (λ z. n (sym e ∙ z)) in
      let i : ℕ = f.0 in
      let below : (j : ℕ) → j < suc i → RuleAt j a t = rules-to i (omega (arith, f.2.inside)) f.2.before in
      let is : suc i ≡ r = omega (arith, f.1, e) in (
        λ j l. below j (omega arith),
        λ h. f.2.fails ((decides_at i f.2.inside below).left (subst (λ (k : ℕ). RuleAt k a t) (sym is) h)),
      )
