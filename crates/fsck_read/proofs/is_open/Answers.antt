-- `fsck_read::is_open`: the search finds a row, or none.
use mathlib.Core.Path.{sym, ◌∙◌}
use Rattle.mem.specs.Mem.{table_in}
use Rattle.fsck_read.proofs.Nodes.{open_row, open-not}
use Rattle.fsck_read.proofs.is_open.Goals as goal

pub returns-in-Some : goal.returns-in-Some
returns-in-Some c =
    open_row (table_in c.args.mem.now) c.args.id _ (sym c.find_row-f.ensures ∙ c.in-Some.is)

pub returns-in-None : goal.returns-in-None
returns-in-None c =
    open-not (table_in c.args.mem.now) c.args.id (sym c.find_row-f.ensures ∙ c.in-None.is)
