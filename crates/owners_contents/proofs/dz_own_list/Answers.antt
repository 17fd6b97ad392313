-- `owners_contents::dz_own_list`: 255 where the place is not one word; else the call by the chains, on the table in memory.
use mathlib.Core.Path.{sym, ◌∙◌}
use native.Mathlib.Omega.{arith}
use lib.ListN.{length}
use Rattle.std.proofs.Common.{rules}
use Rattle.edge.specs.Edge.{start_in}
use Rattle.sound.proofs.Chains.{length-firsts}
use Rattle.sefs.specs.Read.{call_listing}
use Rattle.edge.proofs.Laws.{sized-is, sized-not, answers-not, by-listed, listed-room}
use Rattle.owners_kept.proofs.Laws.{admitted}
use Rattle.owners_contents.proofs.dz_own_list.Goals as goal

pub returns-then-next-ne-NEXT_WORDS : goal.returns-then-next-ne-NEXT_WORDS
returns-then-next-ne-NEXT_WORDS c = answers-not (sized-not 1 c.args.next.now _ c.if-next-ne-NEXT_WORDS.true)

pub slice_bounds-list_led-end : goal.slice_bounds-list_led-end
slice_bounds-list_led-end c = sym (length-firsts c.args.chains.now c.requires.chained.size)

pub list_led-l-requires : goal.list_led-l-requires
list_led-l-requires c = admitted c.requires c.begin.ensures.0 c.begin.ensures.1

pub end_listed-requires : goal.end_listed-requires
end_listed-requires c =
    (c.if-next-ne-NEXT_WORDS.false, listed-room c.args.arena.now c.args.table.now c.begin.new.mem c.args.owner c.handle.result c.start_of-from.result (length c.args.out.now) c.list_led-l.result (λ j. search rules) c.requires.size c.begin.ensures.0 (omega arith) c.list_led-l.ensures.0)

pub returns : goal.returns
returns c =
    by-listed _ c.start_of-from.result (start_in c.args.dots c.args.next.now) c.start_of-from.ensures
    (sized-is 1 c.args.next.now _ c.if-next-ne-NEXT_WORDS.false ∙ (λ x. call_listing c.args.arena.now (sym c.begin.ensures.0 x) c.args.owner (sym c.handle.ensures x) (sym c.start_of-from.ensures x) (length c.args.out.now)))
    c.list_led-l.ensures c.end_listed.ensures
