-- `owners_contents::dz_own_read`: 255 where the count is not one word; else the call by the chains, on the table in memory.
use mathlib.Core.Path.{sym, ◌∙◌}
use lib.ListN.{length}
use Rattle.sefs.specs.Contents.{call_read}
use Rattle.edge.proofs.Laws.{sized-is, sized-not, answers-not, by-taken}
use Rattle.sound.proofs.Chains.{length-firsts}
use Rattle.owners_kept.proofs.Laws.{admitted}
use Rattle.owners_contents.proofs.dz_own_read.Goals as goal

pub returns-then-count-ne-LENGTH_WORDS : goal.returns-then-count-ne-LENGTH_WORDS
returns-then-count-ne-LENGTH_WORDS c = answers-not (sized-not 1 c.args.count.now _ c.if-count-ne-LENGTH_WORDS.true)

pub slice_bounds-read_led-end : goal.slice_bounds-read_led-end
slice_bounds-read_led-end c = sym (length-firsts c.args.chains.now c.requires.chained.size)

pub read_led-t-requires : goal.read_led-t-requires
read_led-t-requires c = admitted c.requires c.begin.ensures.0 c.begin.ensures.1

pub returns : goal.returns
returns c =
    by-taken _
    (sized-is 1 c.args.count.now _ c.if-count-ne-LENGTH_WORDS.false ∙ (λ x. call_read c.args.arena.now (sym c.begin.ensures.0 x) c.args.owner (sym c.handle.ensures x) c.args.place (length c.args.out.now)))
    c.read_led-t.ensures c.end_taken.ensures
