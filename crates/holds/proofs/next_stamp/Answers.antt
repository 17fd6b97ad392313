-- `holds::next_stamp`: the bytes at its place.
use mathlib.Core.Path.{sym, ◌∙◌}
use Rattle.holds.proofs.Laws.{next-read}
use Rattle.holds.proofs.next_stamp.Goals as goal

pub returns : goal.returns
returns c = c.u64_at.ensures ∙ sym (next-read c.args.mem.now)
