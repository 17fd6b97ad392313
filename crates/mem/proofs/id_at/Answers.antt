-- `mem::id_at`: the number at its place.
use mathlib.Core.Path.{◌∙◌}
use Rattle.mem.proofs.Fields.{id-read}
use Rattle.mem.proofs.id_at.Goals as goal

pub returns : goal.returns
returns c = c.u32_at.ensures ∙ id-read _ _ c.requires.1
