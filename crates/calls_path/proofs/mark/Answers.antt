-- `calls_path::mark`: one folder more is noted, or none.
use Rattle.calls_path.proofs.Measures.{mark-sets, mark-leaves}
use Rattle.calls_path.proofs.mark.Goals as goal

pub returns-then-n-eq0 : goal.returns-then-n-eq0
returns-then-n-eq0 c = mark-sets _ _ _ c.if-n-eq0.true

pub returns-else-n-eq0 : goal.returns-else-n-eq0
returns-else-n-eq0 c = mark-leaves _ _ _ c.if-n-eq0.false
