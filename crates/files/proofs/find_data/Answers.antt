-- `files::find_data`: no block below k has it.
use mathlib.Core.Path.{ap, ◌∙◌}
use native.Mathlib.Omega.{arith}
use lib.ListN.{length}
use borrow.Author.Count.{below_more}
use Rattle.arena.specs.Fields.{file, is_data}
use Rattle.arena.specs.Places.{data_of}
use Rattle.overlay.proofs.Views.{length-blk_of}
use Rattle.files.proofs.Finds.{tested, seek-here, seek-none}
use Rattle.files.proofs.find_data.Goals as goal

pub loop-k-init : goal.loop-k-init
loop-k-init c = (λ j l. absurd (omega arith))

pub block-requires : goal.block-requires
block-requires c = (c.loop-k-test.true, c.requires.0)

pub is_data-requires : goal.is_data-requires
is_data-requires c =
    (ap length c.block.ensures ∙ length-blk_of _ _ c.requires.0 _ c.loop-k-test.true, c.requires.1)

pub returns-then-is_data : goal.returns-then-is_data
unfolding data_of
returns-then-is_data c =
    seek-here _ _ c.requires.0 (is_data (file c.args.which c.args.name.now) c.args.number) c.loop-k.k c.loop-k-test.true c.loop-k.invariant (tested (is_data (file c.args.which c.args.name.now) c.args.number) c.is_data.ensures c.block.ensures c.if-is_data.true)

pub loop-k-preserved : goal.loop-k-preserved
loop-k-preserved c =
    (below_more _ c.loop-k.k c.loop-k.invariant (tested (is_data (file c.args.which c.args.name.now) c.args.number) c.is_data.ensures c.block.ensures c.if-is_data.false))

pub returns : goal.returns
unfolding data_of
returns c =
    seek-none _ _ c.requires.0 (is_data (file c.args.which c.args.name.now) c.args.number) c.loop-k.k c.loop-k-test.false c.loop-k.invariant
