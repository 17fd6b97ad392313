-- `mem::dirty_at`: the mark at its place.
use Rattle.mem.proofs.Fields.{mark-read}
use Rattle.mem.proofs.dirty_at.Goals as goal

pub returns : goal.returns
returns c = mark-read _ _ c.requires.1
