-- `overlay::commit`: after k turns the arena is the view of its first k blocks.
use mathlib.Core.Path.{◌≡◌, refl, ap, ◌∙◌}
use native.Mathlib.Omega.{arith}
use lib.ListN.{length}
use Rattle.arena.specs.Blocks.{blocks}
use Rattle.overlay.specs.View.{view_to, view}
use Rattle.overlay.proofs.Views.{length-view_to, commit-turn}
use Rattle.overlay.proofs.commit.Goals as goal

pub loop-k-init : goal.loop-k-init
unfolding view_to
loop-k-init c = refl

pub commit_block-requires : goal.commit_block-requires
commit_block-requires c =
    let F = c.requires in
    let k = c.loop-k.k in
    (omega (arith, ap length c.loop-k.invariant, length-view_to _ _ F k (omega arith)), (omega (arith, F.small, F.size, F.room, F.high), omega (arith, F.low k (omega (arith, F.small)), F.room)))

pub loop-k-preserved : goal.loop-k-preserved
loop-k-preserved c = c.commit_block.ensures ∙ commit-turn _ _ c.requires _ c.loop-k.k (omega arith) c.loop-k.invariant

pub returns : goal.returns
unfolding view
returns c =
    let e : c.loop-k.k ≡ blocks c.args.arena.now = omega arith in
    c.loop-k.invariant ∙ rw e
