-- `mem::nlinks_at`: the number at its place.
use mathlib.Core.Path.{◌∙◌}
use Rattle.mem.proofs.Fields.{nlinks-read}
use Rattle.mem.proofs.nlinks_at.Goals as goal

pub returns : goal.returns
returns c = c.u16_at.ensures ∙ nlinks-read _ _ c.requires.1
