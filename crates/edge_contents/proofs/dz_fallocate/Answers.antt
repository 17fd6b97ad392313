-- `edge_contents::dz_fallocate`: 255 where a size is wrong; else the call on the table in memory, and how it ends.
use mathlib.Core.Path.{sym, ◌∙◌}
use Rattle.ranges.specs.Ranges.{call_fallocate}
use Rattle.edge.proofs.Laws.{sized-is, sized-not, answers-not, by_end, ended-code}
use Rattle.edge_contents.proofs.dz_fallocate.Goals as goal

pub returns-then-table-ne-TABLE : goal.returns-then-table-ne-TABLE
returns-then-table-ne-TABLE c =
    answers-not (sized-not 4402 c.args.table.now _ c.if-table-ne-TABLE.true)

pub returns : goal.returns
returns c =
    by_end (sized-is 4402 c.args.table.now _ c.if-table-ne-TABLE.false ∙ (λ x. call_fallocate c.args.arena.now (sym c.begin.ensures.0 x) c.args.owner (sym c.handle.ensures x) (sym c.mode_of.ensures x) c.args.from c.args.len)) c.fallocate_on-r.ensures (ended-code _ _ _ c.end_after.ensures)
