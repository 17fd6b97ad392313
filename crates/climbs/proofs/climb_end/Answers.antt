-- `climbs::climb_end`: the definition's cases.
use Rattle.climbs.proofs.Climbs.{end-met, end-root, end-past}
use Rattle.climbs.proofs.climb_end.Goals as goal

pub returns-then-at-c : goal.returns-then-at-c
returns-then-at-c c = λ s o. end-met s _ _ o c.if-at-c.true

pub returns-then-at-eq2 : goal.returns-then-at-eq2
returns-then-at-eq2 c = λ s o. end-root s _ _ o c.if-at-c.false c.if-at-eq2.true

pub returns : goal.returns
returns c = λ s o. end-past s _ _ o c.if-at-c.false c.if-at-eq2.false
