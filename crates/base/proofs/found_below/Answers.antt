-- `base::found_below`: the two cases of the search's answer.
use mathlib.Core.Path.{sym}
use Rattle.base.proofs.Searches.{found_at, found_nothing}
use Rattle.base.proofs.found_below.Goals as goal

pub returns-then-k-bound : goal.returns-then-k-bound
returns-then-k-bound c = sym (found_at _ _ c.if-k-bound.true)

pub returns-else-k-bound : goal.returns-else-k-bound
returns-else-k-bound c = sym (found_nothing _ _ c.if-k-bound.false)
