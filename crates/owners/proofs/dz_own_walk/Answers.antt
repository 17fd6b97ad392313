-- `owners::dz_own_walk`: 255 where the handle's words are not two; else the call by the chains, on the table in memory.
use mathlib.Core.Path.{sym, ◌∙◌}
use lib.ListN.{length}
use Rattle.sound.proofs.Chains.{length-firsts}
use Rattle.walk.specs.Walk.{call_walk}
use Rattle.edge.proofs.Laws.{walk-sized, walk-not-sized, walks-not, by-walk, ended-code, words-code}
use Rattle.owners_kept.proofs.Laws.{admitted}
use Rattle.owners.proofs.dz_own_walk.Goals as goal

pub returns-then-out-ne-HANDLE_WORDS : goal.returns-then-out-ne-HANDLE_WORDS
returns-then-out-ne-HANDLE_WORDS c = walks-not (walk-not-sized 2 c.args.out.now _ c.if-out-ne-HANDLE_WORDS.true)

pub slice_bounds-walk_led-end : goal.slice_bounds-walk_led-end
slice_bounds-walk_led-end c = sym (length-firsts c.args.chains.now c.requires.chained.size)

pub walk_led-h-requires : goal.walk_led-h-requires
walk_led-h-requires c =
    admitted c.requires c.begin.ensures.0 c.begin.ensures.1

pub returns : goal.returns
returns c =
    by-walk
    (walk-sized 2 c.args.out.now _ c.if-out-ne-HANDLE_WORDS.false ∙ (λ x. call_walk c.args.arena.now (sym c.begin.ensures.0 x) c.args.owner (sym c.handle.ensures x) c.args.path.now (length c.args.links.now)))
    c.walk_led-h.ensures.went c.walk_led-h.ensures.links_after (ended-code _ _ _ c.end_held.ensures.value) (words-code c.walk_led-h.result _ _ c.end_held.ensures.out_after)
