-- `mem::kind_at`: the number at its place.
use mathlib.Core.Path.{◌∙◌}
use Rattle.mem.proofs.Fields.{kind-read}
use Rattle.mem.proofs.kind_at.Goals as goal

pub returns : goal.returns
returns c = c.u32_at.ensures ∙ kind-read _ _ c.requires.1
