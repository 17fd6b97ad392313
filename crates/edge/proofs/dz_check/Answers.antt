-- `edge::dz_check`: 255 where a size is wrong; else the call on the table in memory, and how it ends.
use mathlib.Core.Path.{sym, ◌∙◌}
use Rattle.fsck.specs.Verdicts.{verdict_of}
use Rattle.edge.specs.Edge.{counted}
use Rattle.edge.proofs.Laws.{sized-is, sized-not, answers-not, by-counts}
use Rattle.edge.proofs.dz_check.Goals as goal

pub returns-then-table-ne-TABLE : goal.returns-then-table-ne-TABLE
returns-then-table-ne-TABLE c =
    answers-not (sized-not 4402 c.args.table.now _ c.if-table-ne-TABLE.true)

pub returns-then-out-ne-COUNTS_WORDS : goal.returns-then-out-ne-COUNTS_WORDS
returns-then-out-ne-COUNTS_WORDS c =
    answers-not (sized-is 4402 c.args.table.now _ c.if-table-ne-TABLE.false ∙ sized-not 3 c.args.out.now _ c.if-out-ne-COUNTS_WORDS.true)

pub check_on-v-requires : goal.check_on-v-requires
check_on-v-requires c =
    c.begin.ensures.1

pub returns : goal.returns
returns c =
    by-counts (sized-is 4402 c.args.table.now _ c.if-table-ne-TABLE.false ∙ sized-is 3 c.args.out.now _ c.if-out-ne-COUNTS_WORDS.false ∙ (λ x. counted (((λ y. verdict_of c.args.arena.now (sym c.begin.ensures.0 y)) ∙ sym c.check_on-v.ensures) x))) c.end_verdict.ensures
