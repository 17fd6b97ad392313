-- `calls_mend::mend_on`: what the plan finds out has its own place.
use mathlib.Core.Path.{refl}
use Rattle.calls_mend.proofs.mend_on.Goals as goal

pub mend_in-requires : goal.mend_in-requires
mend_in-requires c = (c.requires, (refl, refl))

pub returns : goal.returns
returns c = c.mend_in.ensures
