-- `edge::dz_open`: 255 where the size is wrong; else the call, and the empty table.
use Rattle.edge.proofs.Laws.{sized-is, sized-not, answers-not, by-table, ended-code}
use Rattle.edge.proofs.dz_open.Goals as goal

pub returns-then-table-ne-TABLE : goal.returns-then-table-ne-TABLE
returns-then-table-ne-TABLE c =
    answers-not (sized-not 4402 c.args.table.now _ c.if-table-ne-TABLE.true)

pub returns : goal.returns
returns c =
    by-table (sized-is 4402 c.args.table.now _ c.if-table-ne-TABLE.false) c.open_on-r.ensures (ended-code _ _ _ c.end_fresh.ensures)
