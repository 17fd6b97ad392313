-- `chains::slots::is_ended`: by the verdict on the name.
use Rattle.sefs.specs.Slots.{is_ended}
use mathlib.Core.Path.{ap, sym, ◌∙◌}
use Rattle.chains.proofs.slots.is_ended.Goals as goal

pub returns-in-Ended : goal.returns-in-Ended
returns-in-Ended c = sym (ap is_ended (sym c.stored_name-s.ensures ∙ c.in-Ended.is))

pub returns-in-Broken : goal.returns-in-Broken
returns-in-Broken c = sym (ap is_ended (sym c.stored_name-s.ensures ∙ c.in-Broken.is))
