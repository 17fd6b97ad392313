-- `edge::dz_close`: 255 where a size is wrong; else the call on the table in memory, and how it ends.
use mathlib.Core.Path.{sym, ◌∙◌}
use Rattle.sefs.specs.Close.{call_close}
use Rattle.edge.proofs.Laws.{sized-is, sized-not, answers-not, by_end, ended-code}
use Rattle.edge.proofs.dz_close.Goals as goal

pub returns-then-table-ne-TABLE : goal.returns-then-table-ne-TABLE
returns-then-table-ne-TABLE c =
    answers-not (sized-not 4402 c.args.table.now _ c.if-table-ne-TABLE.true)

pub close_on-r-requires : goal.close_on-r-requires
close_on-r-requires c =
    c.begin.ensures.1

pub returns : goal.returns
returns c =
    by_end (sized-is 4402 c.args.table.now _ c.if-table-ne-TABLE.false ∙ (λ x. call_close c.args.arena.now (sym c.begin.ensures.0 x) c.args.owner (sym c.handle.ensures x))) c.close_on-r.ensures (ended-code _ _ _ c.end_after.ensures)
