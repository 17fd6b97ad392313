-- `sound::all_alone`: after k turns the first k blocks are alone, and are in the chains.
use mathlib.Core.Path.{◌≡◌, refl, sym, ◌∙◌, ap}
use mathlib.Core.Bool.{true}
use native.Mathlib.Omega.{arith}
use Rattle.base.specs.Count.{all_to}
use Rattle.base.proofs.Counts.{all_to-more, all_to-false}
use Rattle.arena.specs.Blocks.{blocks}
use Rattle.sound.specs.Chain.{alone}
use Rattle.sound.proofs.Chains.{chains-none, get_or-firsts}
use Rattle.sound.proofs.all_alone.Goals as goal

pub loop-k-init : goal.loop-k-init
unfolding all_to
loop-k-init c =
    (refl, chains-none _ _ _ (λ h l. get_or-firsts c.args.chains.now h l ∙ c.requires.by_index h l))

pub returns-then-not-add_block-clause-value : goal.returns-then-not-add_block-clause-value
returns-then-not-add_block-clause-value c =
    let a = c.args.arena.now in
    sym (all_to-false (alone a) (blocks a) c.loop-k.k (omega arith) (sym c.add_block.ensures.value ∙ c.if-not-add_block.true))

pub loop-k-preserved : goal.loop-k-preserved
loop-k-preserved c =
    let t : c.add_block.result ≡ true = c.if-not-add_block.false in
    (all_to-more _ _ c.loop-k.invariant.0 (sym c.add_block.ensures.value ∙ t), c.add_block.ensures.chains_2 t)

pub returns-clause-value : goal.returns-clause-value
returns-clause-value c =
    let a = c.args.arena.now in
    let e : c.loop-k.k ≡ blocks a = omega arith in
    sym c.loop-k.invariant.0 ∙ ap (all_to (alone a)) e
