-- `edge::dz_walk`: 255 where a size is wrong; else the call on the table in memory, and how it ends.
use mathlib.Core.Path.{sym, ◌∙◌}
use lib.ListN.{length}
use Rattle.walk.specs.Walk.{call_walk}
use Rattle.edge.proofs.Laws.{walk-sized, walk-not-sized, walks-not, by-walk, ended-code, words-code}
use Rattle.edge.proofs.dz_walk.Goals as goal

pub returns-then-table-ne-TABLE : goal.returns-then-table-ne-TABLE
returns-then-table-ne-TABLE c = walks-not (walk-not-sized 4402 c.args.table.now _ c.if-table-ne-TABLE.true)

pub returns-then-out-ne-HANDLE_WORDS : goal.returns-then-out-ne-HANDLE_WORDS
returns-then-out-ne-HANDLE_WORDS c =
    walks-not (walk-sized 4402 c.args.table.now _ c.if-table-ne-TABLE.false ∙ walk-not-sized 2 c.args.out.now _ c.if-out-ne-HANDLE_WORDS.true)

pub walk_on-h-requires : goal.walk_on-h-requires
walk_on-h-requires c = c.begin.ensures.1

pub returns : goal.returns
returns c =
    by-walk
    (walk-sized 4402 c.args.table.now _ c.if-table-ne-TABLE.false ∙ walk-sized 2 c.args.out.now _ c.if-out-ne-HANDLE_WORDS.false
    ∙ (λ x. call_walk c.args.arena.now (sym c.begin.ensures.0 x) c.args.owner (sym c.handle.ensures x) c.args.path.now (length c.args.links.now)))
    c.walk_on-h.ensures.went c.walk_on-h.ensures.links_after (ended-code _ _ _ c.end_held.ensures.value) (words-code c.walk_on-h.result _ _ c.end_held.ensures.out_after)
