-- `files::store::free_blocks`: after k turns the view is the definition's at k.
use mathlib.Core.Path.{refl, ap, ◌∙◌}
use native.Mathlib.Omega.{arith}
use lib.ListN.{length}
use Rattle.base.specs.Search.{pick}
use Rattle.arena.specs.Fields.{file}
use Rattle.overlay.proofs.Views.{length-blk_of}
use Rattle.files.specs.Store.{is_of, is_past}
use Rattle.files.proofs.Clears.{clear_none, clear-tested, clear-all}
use Rattle.files.proofs.store.free_blocks.Goals as goal

pub loop-k-init : goal.loop-k-init
loop-k-init c = (refl, clear_none _ _ c.requires.0 _)

pub block-requires : goal.block-requires
block-requires c = (c.loop-k-test.true, c.loop-k.invariant.1.fine)

pub goes-yes-requires : goal.goes-yes-requires
goes-yes-requires c =
    (ap length c.block.ensures ∙ length-blk_of _ _ c.loop-k.invariant.1.fine _ c.loop-k-test.true, c.requires.1)

pub free_if-requires : goal.free_if-requires
free_if-requires c =
    let G = c.loop-k.invariant.1.fine in
    omega (arith, G.small, G.size, G.room, G.high)

pub loop-k-preserved : goal.loop-k-preserved
loop-k-preserved c =
    let f = file c.args.which c.args.name.now in
    let u = c.loop-k.work in (
      c.free_if.auto.work ∙ c.loop-k.invariant.0,
      clear-tested _ _ c.requires.0 (pick c.args.all (is_of f) (is_past f c.args.len)) u _ c.loop-k.k c.loop-k-test.true c.loop-k.invariant.1
          c.goes-yes.ensures c.block.ensures c.free_if.ensures,
    )

pub returns : goal.returns
returns c = clear-all _ _ c.requires.0 _ _ c.loop-k.k (omega arith) c.loop-k.invariant.1
