-- `edge::dz_link`: 255 where a size is wrong; else the call on the table in memory, and how it ends.
use mathlib.Core.Path.{sym, ◌∙◌}
use Rattle.sefs.specs.Create.{call_link}
use Rattle.edge.proofs.Laws.{sized-is, sized-not, answers-not, by_end, ended-code}
use Rattle.edge.proofs.dz_link.Goals as goal

pub returns-then-table-ne-TABLE : goal.returns-then-table-ne-TABLE
returns-then-table-ne-TABLE c =
    answers-not (sized-not 4402 c.args.table.now _ c.if-table-ne-TABLE.true)

pub link_on-r-requires : goal.link_on-r-requires
link_on-r-requires c =
    c.begin.ensures.1

pub returns : goal.returns
returns c =
    by_end (sized-is 4402 c.args.table.now _ c.if-table-ne-TABLE.false ∙ (λ x. call_link c.args.arena.now (sym c.begin.ensures.0 x) c.args.owner (sym c.handle.ensures x) c.args.name.now (sym c.handle-child.ensures x))) c.link_on-r.ensures (ended-code _ _ _ c.end_after.ensures)
