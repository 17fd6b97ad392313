-- `edge::dz_move`: 255 where a size is wrong; else the call on the table in memory, and how it ends.
use mathlib.Core.Path.{sym, ◌∙◌}
use Rattle.sefs.specs.Move.{call_move}
use Rattle.edge.proofs.Laws.{sized-is, sized-not, answers-not, by_move}
use Rattle.edge.proofs.dz_move.Goals as goal

pub returns-then-table-ne-TABLE : goal.returns-then-table-ne-TABLE
returns-then-table-ne-TABLE c =
    answers-not (sized-not 4402 c.args.table.now _ c.if-table-ne-TABLE.true)

pub move_on-c-requires : goal.move_on-c-requires
move_on-c-requires c =
    c.begin.ensures.1

pub returns : goal.returns
returns c =
    by_move
    (sized-is 4402 c.args.table.now _ c.if-table-ne-TABLE.false ∙ (λ x. call_move c.args.arena.now (sym c.begin.ensures.0 x) c.args.owner (sym c.handle.ensures x) c.args.old.now (sym c.handle-to.ensures x) c.args.name.now))
    c.begin.ensures.0 c.move_on-c.ensures c.end_course.ensures
