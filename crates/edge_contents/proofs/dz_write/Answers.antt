-- `edge_contents::dz_write`: 255 where a size is wrong; else the call on the table in memory, and how it ends.
use mathlib.Core.Path.{sym, ◌∙◌}
use Rattle.sefs.specs.Contents.{call_write}
use Rattle.edge.proofs.Laws.{sized-is, sized-not, answers-not, by_end, ended-code}
use Rattle.edge_contents.proofs.dz_write.Goals as goal

pub returns-then-table-ne-TABLE : goal.returns-then-table-ne-TABLE
returns-then-table-ne-TABLE c =
    answers-not (sized-not 4402 c.args.table.now _ c.if-table-ne-TABLE.true)

pub write_on-r-requires : goal.write_on-r-requires
write_on-r-requires c =
    c.begin.ensures.1

pub returns : goal.returns
returns c =
    by_end (sized-is 4402 c.args.table.now _ c.if-table-ne-TABLE.false ∙ (λ x. call_write c.args.arena.now (sym c.begin.ensures.0 x) c.args.owner (sym c.handle.ensures x) c.args.place c.args.src.now)) c.write_on-r.ensures (ended-code _ _ _ c.end_after.ensures)
