-- What a public call's contract gives from a passed pair, and what the checker's answer says.
use Rattle.std.specs.Prelude.{Bool, true, false, List, ◌≢◌, ℕ, ◌<◌, ◌≤◌}
use Rattle.base.specs.Reasons.{damaged, bad_table, stuck}
use Rattle.table.specs.declared.Table.{Table}
use Rattle.rules.specs.Rules.{RuleAt}
use Rattle.sequences.specs.Pairs.{pair, Passed}
use Rattle.fsck.specs.declared.Verdict.{Verdict}
use Rattle.fsck.specs.declared.Verdict.TheVariants.{Pass, Fail}

-- a call that answered with number n (0 where it was done) and left arena b and table u: "no call .. finds the image stuck, damaged or its
-- table malformed, and the pair passes after each call"
pub record Stays (b : List ℕ) (u : Table) (n : ℕ) : Type 0 where
  pub not_stuck : n ≢ stuck
  pub not-damaged : n ≢ damaged
  pub not-malformed : n ≢ bad_table
  pub passes : Passed (pair b u)

-- ---- "Check answers pass or the lowest failing number"

abbrev pub is_pass : Verdict → Bool
is_pass (Pass nodes unused free) = true
is_pass (Fail n) = false

-- n is the lowest of the eight rules that does not hold
pub record Lowest (a : List ℕ) (t : Table) (n : ℕ) : Type 0 where
  pub least : 1 ≤ n
  pub most : n ≤ 8
  pub below : (j : ℕ) → j < n → RuleAt j a t
  pub fails : RuleAt n a t → ⊥
