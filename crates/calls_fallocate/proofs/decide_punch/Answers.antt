-- `calls_fallocate::decide_punch`: the part that lies below the size.
use native.Mathlib.Omega.{arith}
use Rattle.calls_fallocate.proofs.Decisions.{decided-as}
use Rattle.calls_fallocate.proofs.decide_punch.Goals as goal

pub decide-requires : goal.decide-requires
decide-requires c = record { led = c.requires.led; plan_len = (c.requires.plan_len.0, (omega (arith, c.below-low.ensures, c.below-high.ensures, c.requires.plan_len.1.0), c.requires.plan_len.1.1)) }

pub returns : goal.returns
returns c = decided-as c.below-low.ensures c.below-high.ensures c.decide.ensures
