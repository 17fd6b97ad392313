-- `files::find_free`: no block below k has it.
use mathlib.Core.Path.{ap, ◌∙◌}
use native.Mathlib.Omega.{arith}
use lib.ListN.{length}
use borrow.Author.Count.{below_more}
use Rattle.arena.specs.Fields.{is_free}
use Rattle.arena.specs.Places.{free_of}
use Rattle.overlay.proofs.Views.{length-blk_of}
use Rattle.files.proofs.Finds.{tested, seek-here, seek-none}
use Rattle.files.proofs.find_free.Goals as goal

pub loop-k-init : goal.loop-k-init
loop-k-init c = (λ j l. absurd (omega arith))

pub block-requires : goal.block-requires
block-requires c = (c.loop-k-test.true, c.requires)

pub is_free-requires : goal.is_free-requires
is_free-requires c =
    ap length c.block.ensures ∙ length-blk_of _ _ c.requires _ c.loop-k-test.true

pub returns-then-is_free : goal.returns-then-is_free
unfolding free_of
returns-then-is_free c =
    seek-here _ _ c.requires is_free c.loop-k.k c.loop-k-test.true c.loop-k.invariant (tested is_free c.is_free.ensures c.block.ensures c.if-is_free.true)

pub loop-k-preserved : goal.loop-k-preserved
loop-k-preserved c =
    (below_more _ c.loop-k.k c.loop-k.invariant (tested is_free c.is_free.ensures c.block.ensures c.if-is_free.false))

pub returns : goal.returns
unfolding free_of
returns c =
    seek-none _ _ c.requires is_free c.loop-k.k c.loop-k-test.false c.loop-k.invariant
