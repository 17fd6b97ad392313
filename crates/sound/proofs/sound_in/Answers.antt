-- `sound::sound_in`: the two passes are the definition.
use mathlib.Core.Path.{◌≡◌, sym, ◌∙◌, ap}
use mathlib.Core.Bool.{Bool, ◌&&◌}
use native.Mathlib.Omega.{arith}
use lib.ListN.{length, drop, length-drop}
use Rattle.std.proofs.lemmas.List.{take_all}
use Rattle.base.specs.Count.{all_to}
use Rattle.arena.specs.Blocks.{blocks}
use Rattle.sound.specs.Sound.{under}
use Rattle.sound.specs.Chain.{nexts}
use Rattle.sound.proofs.Chains.{sound-is}
use Rattle.sound.proofs.sound_in.Goals as goal

pub returns-then-not-all_alone-clause-value : goal.returns-then-not-all_alone-clause-value
returns-then-not-all_alone-clause-value c =
    let a = c.args.arena.now in
    sym (sound-is a ∙ ap (λ (t : Bool). t && all_to (under a) (blocks a)) (sym c.all_alone.ensures.value ∙ c.if-not-all_alone.true))

pub all_under-requires-clause-chains : goal.all_under-requires-clause-chains
all_under-requires-clause-chains c =
    let l = c.all_alone.new.chains in
    let n : length l ≡ 8192 = c.all_alone.auto.chains ∙ c.requires.arena_bound.1 in
    let back : nexts l ≡ drop 4096 l = take_all 4096 (drop 4096 l) (omega (arith, length-drop 4096 l)) in
    rw (c.split_at.ensures.front, c.split_at.ensures.back, ← back) (c.all_alone.ensures.chains c.if-not-all_alone.false)

pub returns-clause-value : goal.returns-clause-value
returns-clause-value c =
    let a = c.args.arena.now in
    c.all_under.ensures ∙ sym (sound-is a ∙ ap (λ (t : Bool). t && all_to (under a) (blocks a)) (sym c.all_alone.ensures.value ∙ c.if-not-all_alone.false))
