-- `owners::dz_own_find`: 255 where the handle's words are not two; else the call by the chains, on the table in memory.
use mathlib.Core.Path.{sym, ◌∙◌}
use Rattle.sound.proofs.Chains.{length-firsts}
use Rattle.sefs.specs.Open.{call_find}
use Rattle.edge.proofs.Laws.{sized-is, sized-not, answers-not, by-held, ended-code, words-code}
use Rattle.owners_kept.proofs.Laws.{admitted}
use Rattle.owners.proofs.dz_own_find.Goals as goal

pub returns-then-out-ne-HANDLE_WORDS : goal.returns-then-out-ne-HANDLE_WORDS
returns-then-out-ne-HANDLE_WORDS c = answers-not (sized-not 2 c.args.out.now _ c.if-out-ne-HANDLE_WORDS.true)

pub slice_bounds-find_led-end : goal.slice_bounds-find_led-end
slice_bounds-find_led-end c = sym (length-firsts c.args.chains.now c.requires.chained.size)

pub find_led-h-requires : goal.find_led-h-requires
find_led-h-requires c =
    admitted c.requires c.begin.ensures.0 c.begin.ensures.1

pub returns : goal.returns
returns c =
    by-held
    (sized-is 2 c.args.out.now _ c.if-out-ne-HANDLE_WORDS.false ∙ (λ x. call_find c.args.arena.now (sym c.begin.ensures.0 x) c.args.owner (sym c.handle.ensures x) c.args.name.now))
    c.find_led-h.ensures (ended-code _ _ _ c.end_held.ensures.value) (words-code c.find_led-h.result _ _ c.end_held.ensures.out_after)
