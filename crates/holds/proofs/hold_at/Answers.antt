-- `holds::hold_at`: the bytes at its place.
use mathlib.Core.Path.{sym, ◌∙◌}
use Rattle.mem.proofs.Mems.{hold-read}
use Rattle.holds.proofs.hold_at.Goals as goal

pub returns : goal.returns
returns c = c.hold_in.ensures ∙ sym (hold-read c.args.mem.now c.args.n c.requires.1)
