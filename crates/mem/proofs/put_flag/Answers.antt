-- `mem::put_flag`: one byte.
use mathlib.Core.Path.{ap}
use lib.ListN.{set}
use Rattle.mem.proofs.put_flag.Goals as goal

pub returns : goal.returns
returns c = ap (set c.args.mem.now 4402) c.mark_of.ensures
