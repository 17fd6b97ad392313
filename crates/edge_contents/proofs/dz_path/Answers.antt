-- `edge_contents::dz_path`: 255 where a size is wrong; else the call on the table in memory, and how it ends.
use mathlib.Core.Path.{sym, ◌∙◌}
use lib.ListN.{length}
use Rattle.paths.specs.Path.{call_path}
use Rattle.edge.proofs.Laws.{sized-is, sized-not, answers-not, by-taken}
use Rattle.edge_contents.proofs.dz_path.Goals as goal

pub returns-then-table-ne-TABLE : goal.returns-then-table-ne-TABLE
returns-then-table-ne-TABLE c = answers-not (sized-not 4402 c.args.table.now _ c.if-table-ne-TABLE.true)

pub returns-then-count-ne-LENGTH_WORDS : goal.returns-then-count-ne-LENGTH_WORDS
returns-then-count-ne-LENGTH_WORDS c =
    answers-not (sized-is 4402 c.args.table.now _ c.if-table-ne-TABLE.false ∙ sized-not 1 c.args.count.now _ c.if-count-ne-LENGTH_WORDS.true)

pub path_on-t-requires : goal.path_on-t-requires
path_on-t-requires c = c.begin.ensures.1

pub returns : goal.returns
returns c =
    by-taken _
    (sized-is 4402 c.args.table.now _ c.if-table-ne-TABLE.false ∙ sized-is 1 c.args.count.now _ c.if-count-ne-LENGTH_WORDS.false
    ∙ (λ x. call_path c.args.arena.now (sym c.begin.ensures.0 x) c.args.owner (sym c.handle.ensures x) (length c.args.out.now)))
    c.path_on-t.ensures.lays c.end_taken.ensures
