-- `plans::touched`: the definition's two cases.
use Rattle.plans.proofs.Plans.{touched_none, touched-some}
use Rattle.plans.proofs.touched.Goals as goal

pub returns-then-n-eq0 : goal.returns-then-n-eq0
returns-then-n-eq0 c = touched_none _ _ c.if-n-eq0.true

pub returns : goal.returns
returns c = touched-some _ _ c.if-n-eq0.false
