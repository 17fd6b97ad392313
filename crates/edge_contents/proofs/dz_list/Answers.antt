-- `edge_contents::dz_list`: 255 where a size is wrong; else the call on the table in memory, and how it ends.
use mathlib.Core.Path.{sym, ◌∙◌}
use native.Mathlib.Omega.{arith}
use Rattle.std.proofs.Common.{rules}
use lib.ListN.{length}
use Rattle.edge.specs.Edge.{start_in}
use Rattle.sefs.specs.Read.{call_listing}
use Rattle.edge.proofs.Laws.{sized-is, sized-not, answers-not, by-listed, listed-room}
use Rattle.edge_contents.proofs.dz_list.Goals as goal

pub returns-then-table-ne-TABLE : goal.returns-then-table-ne-TABLE
returns-then-table-ne-TABLE c =
    answers-not (sized-not 4402 c.args.table.now _ c.if-table-ne-TABLE.true)

pub returns-then-next-ne-NEXT_WORDS : goal.returns-then-next-ne-NEXT_WORDS
returns-then-next-ne-NEXT_WORDS c =
    answers-not (sized-is 4402 c.args.table.now _ c.if-table-ne-TABLE.false ∙ sized-not 1 c.args.next.now _ c.if-next-ne-NEXT_WORDS.true)

pub listing_on-l-requires : goal.listing_on-l-requires
listing_on-l-requires c = c.begin.ensures.1

pub end_listed-requires : goal.end_listed-requires
end_listed-requires c =
    (c.if-next-ne-NEXT_WORDS.false, listed-room c.args.arena.now c.args.table.now c.begin.new.mem c.args.owner c.handle.result c.start_of-from.result (length c.args.out.now) c.listing_on-l.result (λ j. search rules) c.if-table-ne-TABLE.false c.begin.ensures.0 (omega arith) c.listing_on-l.ensures.0)

pub returns : goal.returns
returns c =
    by-listed _ c.start_of-from.result (start_in c.args.dots c.args.next.now) c.start_of-from.ensures
    (sized-is 4402 c.args.table.now _ c.if-table-ne-TABLE.false ∙ sized-is 1 c.args.next.now _ c.if-next-ne-NEXT_WORDS.false
    ∙ (λ x. call_listing c.args.arena.now (sym c.begin.ensures.0 x) c.args.owner (sym c.handle.ensures x) (sym c.start_of-from.ensures x) (length c.args.out.now)))
    c.listing_on-l.ensures c.end_listed.ensures
