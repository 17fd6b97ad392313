-- `edge::remove_named`: 255 where a size is wrong; else the call on the table in memory, and how it ends.
use mathlib.Core.Path.{sym, ◌∙◌}
use Rattle.sefs.specs.Remove.{call_remove}
use Rattle.edge.proofs.Laws.{sized-is, sized-not, answers-not, by_end, ended-code}
use Rattle.edge.proofs.remove_named.Goals as goal

pub returns-then-table-ne-TABLE : goal.returns-then-table-ne-TABLE
returns-then-table-ne-TABLE c =
    answers-not (sized-not 4402 c.args.table.now _ c.if-table-ne-TABLE.true)

pub remove_on-r-requires : goal.remove_on-r-requires
remove_on-r-requires c =
    c.begin.ensures.1

pub returns : goal.returns
returns c =
    by_end (sized-is 4402 c.args.table.now _ c.if-table-ne-TABLE.false ∙ (λ x. call_remove c.args.folder c.args.arena.now (sym c.begin.ensures.0 x) c.args.owner (sym c.handle.ensures x) c.args.name.now)) c.remove_on-r.ensures (ended-code _ _ _ c.end_after.ensures)
