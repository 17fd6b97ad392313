-- `edge::dz_mend`: 255 where the size is wrong; else the call on the table in memory, which is not written back.
use mathlib.Core.Path.{sym, ◌∙◌}
use Rattle.mending.specs.Mend.{call_mend}
use Rattle.calls.proofs.Answers.{told-code}
use Rattle.edge.proofs.Laws.{sized-is, sized-not, answers-not, by-mend}
use Rattle.edge.proofs.dz_mend.Goals as goal

pub returns-then-table-ne-TABLE : goal.returns-then-table-ne-TABLE
returns-then-table-ne-TABLE c =
    answers-not (sized-not 4402 c.args.table.now _ c.if-table-ne-TABLE.true)

pub returns : goal.returns
returns c =
    by-mend (sized-is 4402 c.args.table.now _ c.if-table-ne-TABLE.false ∙ (λ x. call_mend c.args.arena.now (sym c.begin.ensures.0 x))) c.mend_on-r.ensures (c.number.ensures ∙ told-code _)
