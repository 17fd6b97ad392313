-- The code's check passes exactly where the rules hold, and fails with r exactly where r is the lowest rule that does not.
use mathlib.Core.Path.{◌≡◌, refl, sym, ap, ◌∙◌, subst}
use mathlib.Core.Bool.{Bool, true}
use mathlib.Core.List.{List}
use mathlib.Core.Logic.{◌≢◌, ⊎_elim}
use Prim.Native.Nat.{ℕ, suc, ◌-◌}
use native.Mathlib.Omega.{arith}
use borrow.Author.Tests.{eq-eqb, ne_eqb}
use Rattle.base.specs.Search.{pick}
use Rattle.base.proofs.Bools.{true-false}
use Rattle.base.proofs.Finds.{eq-cases}
use Rattle.base.proofs.Numbers.{lt-or-le}
use Rattle.table.specs.declared.Table.{Table}
use Rattle.rules.specs.Rules.{Allowed, RuleAt}
use Rattle.rules.specs.Tests.{checked}
use Rattle.rules.proofs.Check.{rule-of, check-pass, allowed-pass, check-fail}
use Rattle.fsck.specs.Verdicts.{pass_of, verdict_of}
use Rattle.fsck.specs.declared.Verdict.{Verdict}
use Rattle.fsck.specs.declared.Verdict.TheVariants.{Pass, Fail}
use Rattle.promised.specs.Promised.{is_pass, Lowest}

module _ (a : List ℕ) (t : Table) where
  verdict-pass : checked a t ≡ 0 → verdict_of a t ≡ pass_of a
  unfolding verdict_of
  verdict-pass e = ap (λ (b : Bool). pick b (pass_of a) (Fail (checked a t))) (eq-eqb (checked a t) 0 e)

  verdict-fail : checked a t ≢ 0 → verdict_of a t ≡ Fail (checked a t)
  unfolding verdict_of
  verdict-fail n = ap (λ (b : Bool). pick b (pass_of a) (Fail (checked a t))) (ne_eqb (checked a t) 0 n)

  pass-is : is_pass (pass_of a) ≡ true
  unfolding pass_of
  pass-is = refl

  -- a number past 8 is no rule's, and says nothing
  past : (n : ℕ) → RuleAt (suc (suc (suc (suc (suc (suc (suc (suc (suc n))))))))) a t
  unfolding RuleAt
  past n = tt

  -- what the contract of `check` says of its answer r
  module _ (r : Verdict) (is : r ≡ verdict_of a t) where
    pub pass-allowed : is_pass r ≡ true → Allowed a t
    pass-allowed p =
        ⊎_elim
        (λ (z : checked a t ≡ 0). check-pass a t z)
        (λ n. absurd (true-false p (ap is_pass (is ∙ verdict-fail n))))
        (eq-cases (checked a t) 0)

    pub allowed-passes : Allowed a t → is_pass r ≡ true
    allowed-passes A = ap is_pass (is ∙ verdict-pass (allowed-pass a t A)) ∙ pass-is

    failed : (n : ℕ) → r ≡ Fail n → (checked a t ≢ 0) × (checked a t ≡ n)
    failed n e =
        let some : checked a t ≢ 0 = λ z. true-false pass-is (ap is_pass (sym (verdict-pass z) ∙ sym is ∙ e)) in
        (some, ap number (sym (verdict-fail some) ∙ sym is ∙ e))
      where
        number : Verdict → ℕ
        number (Pass x y z) = 0
        number (Fail n) = n

    pub fail-lowest : (n : ℕ) → r ≡ Fail n → Lowest a t n
    fail-lowest n e =
        let f = failed n e in
        let c = check-fail a t n f.1 (λ z. f.0 (f.1 ∙ z)) in
        record {
          least = ⊎_elim (λ (z : n ≡ 0). absurd (f.0 (f.1 ∙ z))) (λ d. omega arith) (eq-cases n 0);
          most = ⊎_elim (λ l. omega arith) (λ g. absurd (c.1 (subst (λ (k : ℕ). RuleAt k a t) (let z : suc (suc (suc (suc (suc (suc (suc (suc (suc (n - 9))))))))) ≡ n = omega arith in z) (past (n - 9))))) (lt-or-le n 9);
          below = c.0;
          fails = c.1;
        }

    pub lowest-fails : (n : ℕ) → Lowest a t n → r ≡ Fail n
    lowest-fails n L = is ∙ verdict-fail some ∙ ap Fail same
      where
        some : checked a t ≢ 0
        some z = L.fails (rule-of a t (check-pass a t z) n)

        same : checked a t ≡ n
        same =
            let c = check-fail a t (checked a t) refl some in
            ⊎_elim
            (λ l. absurd (c.1 (L.below (checked a t) l)))
            (λ g. ⊎_elim (λ l. absurd (L.fails (c.0 n l))) (λ h. omega arith) (lt-or-le n (checked a t)))
            (lt-or-le (checked a t) n)
