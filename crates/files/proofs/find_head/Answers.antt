-- `files::find_head`: no block below k has it.
use mathlib.Core.Path.{ap, ◌∙◌}
use native.Mathlib.Omega.{arith}
use lib.ListN.{length}
use borrow.Author.Count.{below_more}
use Rattle.arena.specs.Fields.{file, is_head}
use Rattle.arena.specs.Places.{head_of}
use Rattle.overlay.proofs.Views.{length-blk_of}
use Rattle.files.proofs.Finds.{tested, seek-here, seek-none}
use Rattle.files.proofs.find_head.Goals as goal

pub loop-k-init : goal.loop-k-init
loop-k-init c = (λ j l. absurd (omega arith))

pub block-requires : goal.block-requires
block-requires c = (c.loop-k-test.true, c.requires.0)

pub is_head-requires : goal.is_head-requires
is_head-requires c =
    (ap length c.block.ensures ∙ length-blk_of _ _ c.requires.0 _ c.loop-k-test.true, c.requires.1)

pub returns-then-is_head : goal.returns-then-is_head
unfolding head_of
returns-then-is_head c =
    seek-here _ _ c.requires.0 (is_head (file c.args.which c.args.name.now)) c.loop-k.k c.loop-k-test.true c.loop-k.invariant (tested (is_head (file c.args.which c.args.name.now)) c.is_head.ensures c.block.ensures c.if-is_head.true)

pub loop-k-preserved : goal.loop-k-preserved
loop-k-preserved c =
    (below_more _ c.loop-k.k c.loop-k.invariant (tested (is_head (file c.args.which c.args.name.now)) c.is_head.ensures c.block.ensures c.if-is_head.false))

pub returns : goal.returns
unfolding head_of
returns c =
    seek-none _ _ c.requires.0 (is_head (file c.args.which c.args.name.now)) c.loop-k.k c.loop-k-test.false c.loop-k.invariant
