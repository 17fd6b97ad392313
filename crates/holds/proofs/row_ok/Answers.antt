-- `holds::row_ok`: the tests in turn.
use Rattle.mem.specs.Mem.{table_in}
use Rattle.holds.proofs.Laws.{row-free, row-used}
use Rattle.holds.proofs.row_ok.Goals as goal

pub returns-then-row-eq0 : goal.returns-then-row-eq0
returns-then-row-eq0 c =
    row-free (table_in c.args.mem.now) c.args.i _ c.row_at-row.ensures _ c.if-row-eq0.true c.record_zero.ensures

pub returns : goal.returns
returns c =
    row-used (table_in c.args.mem.now) c.args.i _ c.row_at-row.ensures _ _ _ c.if-row-eq0.false c.find_row.ensures c.is_at.ensures c.row_held.ensures
