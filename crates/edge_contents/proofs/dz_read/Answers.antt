-- `edge_contents::dz_read`: 255 where a size is wrong; else the call on the table in memory, and how it ends.
use mathlib.Core.Path.{sym, ◌∙◌}
use lib.ListN.{length}
use Rattle.sefs.specs.Contents.{call_read}
use Rattle.edge.proofs.Laws.{sized-is, sized-not, answers-not, by-taken}
use Rattle.edge_contents.proofs.dz_read.Goals as goal

pub returns-then-table-ne-TABLE : goal.returns-then-table-ne-TABLE
returns-then-table-ne-TABLE c =
    answers-not (sized-not 4402 c.args.table.now _ c.if-table-ne-TABLE.true)

pub returns-then-count-ne-LENGTH_WORDS : goal.returns-then-count-ne-LENGTH_WORDS
returns-then-count-ne-LENGTH_WORDS c =
    answers-not (sized-is 4402 c.args.table.now _ c.if-table-ne-TABLE.false ∙ sized-not 1 c.args.count.now _ c.if-count-ne-LENGTH_WORDS.true)

pub read_on-t-requires : goal.read_on-t-requires
read_on-t-requires c =
    c.begin.ensures.1

pub returns : goal.returns
returns c =
    by-taken _
    (sized-is 4402 c.args.table.now _ c.if-table-ne-TABLE.false ∙ sized-is 1 c.args.count.now _ c.if-count-ne-LENGTH_WORDS.false ∙ (λ x. call_read c.args.arena.now (sym c.begin.ensures.0 x) c.args.owner (sym c.handle.ensures x) c.args.place (length c.args.out.now)))
    c.read_on-t.ensures c.end_taken.ensures
