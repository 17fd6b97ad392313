-- `sound::all_under`: after k turns the first k blocks are under their heads.
use mathlib.Core.Path.{◌≡◌, refl, sym, ◌∙◌, ap}
use native.Mathlib.Omega.{arith}
use Rattle.base.specs.Count.{all_to}
use Rattle.base.proofs.Counts.{all_to-more, all_to-false}
use Rattle.arena.specs.Blocks.{blocks}
use Rattle.sound.specs.Sound.{under}
use Rattle.sound.proofs.all_under.Goals as goal

pub loop-k-init : goal.loop-k-init
unfolding all_to
loop-k-init c = refl

pub returns-then-not-under_at : goal.returns-then-not-under_at
returns-then-not-under_at c =
    let a = c.args.arena.now in
    sym (all_to-false (under a) (blocks a) c.loop-k.k (omega arith) (sym c.under_at.ensures ∙ c.if-not-under_at.true))

pub loop-k-preserved : goal.loop-k-preserved
loop-k-preserved c = all_to-more _ _ c.loop-k.invariant (sym c.under_at.ensures ∙ c.if-not-under_at.false)

pub returns : goal.returns
returns c =
    let a = c.args.arena.now in
    let e : c.loop-k.k ≡ blocks a = omega arith in
    sym c.loop-k.invariant ∙ ap (all_to (under a)) e
