-- `mem::row_at`: the bytes at its place.
use mathlib.Core.Path.{sym, ◌∙◌}
use Rattle.mem.proofs.Mems.{row_read}
use Rattle.mem.proofs.row_at.Goals as goal

pub returns : goal.returns
returns c = c.row_in.ensures ∙ sym (row_read c.args.mem.now c.args.i c.requires.1)
