-- `fsck_read::rec_of`: the row that was found is one of the table's.
use mathlib.Core.Path.{sym, ◌∙◌}
use Rattle.table.proofs.Holds.{row_below}
use Rattle.mem.specs.Mem.{table_in}
use Rattle.fsck_read.proofs.Nodes.{rec-row, rec-stored}
use Rattle.fsck_read.proofs.rec_of.Goals as goal

pub rec_at-requires : goal.rec_at-requires
rec_at-requires c =
    (c.requires.loaded.0.whole, row_below (table_in c.args.mem.now) c.args.id c.in-Some.i (sym c.find_row-f.ensures ∙ c.in-Some.is))

pub returns-in-Some : goal.returns-in-Some
returns-in-Some c =
    c.rec_at.ensures ∙ rec-row (table_in c.args.mem.now) c.args.id c.args.arena.now c.in-Some.i (sym c.find_row-f.ensures ∙ c.in-Some.is)

pub returns-in-None : goal.returns-in-None
returns-in-None c =
    c.stored_rec.ensures ∙ rec-stored (table_in c.args.mem.now) c.args.id c.args.arena.now (sym c.find_row-f.ensures ∙ c.in-None.is)
