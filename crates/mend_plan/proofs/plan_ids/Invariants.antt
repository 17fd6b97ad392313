-- `mend_plan::plan_ids`: an id after the other.
use Rattle.mend_plan.specs.Plan.{Fated}
use Rattle.mend_plan.proofs.plan_ids.Given as goal

abbrev pub invariant-loop-id : goal.invariant-loop-id
invariant-loop-id l = Fated l.arena l.work l.id
