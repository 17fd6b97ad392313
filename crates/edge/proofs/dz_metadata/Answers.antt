-- `edge::dz_metadata`: 255 where a size is wrong; else the call on the table in memory, and how it ends.
use mathlib.Core.Path.{sym, ◌∙◌}
use Rattle.sefs.specs.Read.{call_metadata}
use Rattle.edge.proofs.Laws.{sized-is, sized-not, answers-not, by-told}
use Rattle.edge.proofs.dz_metadata.Goals as goal

pub returns-then-table-ne-TABLE : goal.returns-then-table-ne-TABLE
returns-then-table-ne-TABLE c =
    answers-not (sized-not 4402 c.args.table.now _ c.if-table-ne-TABLE.true)

pub returns-then-out-ne-METADATA_WORDS : goal.returns-then-out-ne-METADATA_WORDS
returns-then-out-ne-METADATA_WORDS c =
    answers-not (sized-is 4402 c.args.table.now _ c.if-table-ne-TABLE.false ∙ sized-not 14 c.args.out.now _ c.if-out-ne-METADATA_WORDS.true)

pub metadata_on-t-requires : goal.metadata_on-t-requires
metadata_on-t-requires c =
    c.begin.ensures.1

pub returns : goal.returns
returns c =
    by-told _ (sized-is 4402 c.args.table.now _ c.if-table-ne-TABLE.false ∙ sized-is 14 c.args.out.now _ c.if-out-ne-METADATA_WORDS.false ∙ (λ x. call_metadata c.args.arena.now (sym c.begin.ensures.0 x) c.args.owner (sym c.handle.ensures x))) c.metadata_on-t.ensures c.end_told.ensures
