-- `mem::blocks_at`: the number at its place.
use mathlib.Core.Path.{◌∙◌}
use Rattle.mem.proofs.Fields.{blocks-read}
use Rattle.mem.proofs.blocks_at.Goals as goal

pub returns : goal.returns
returns c = c.u32_at.ensures ∙ blocks-read _ _ c.requires.1
