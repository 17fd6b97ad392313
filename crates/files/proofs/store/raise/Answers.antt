-- `files::store::raise`: the definition's two cases.
use mathlib.Core.Path.{ap, ◌∙◌}
use native.Mathlib.Omega.{arith}
use lib.ListN.{length}
use Rattle.le.specs.Le.{le_put}
use Rattle.arena.specs.Blocks.{blk, put_blk}
use Rattle.arena.specs.Fields.{number_of, seal}
use Rattle.overlay.specs.View.{view}
use Rattle.overlay.proofs.Views.{length-blk_of}
use Rattle.files.proofs.Blocks.{changed-low, changed-high}
use Rattle.files.proofs.store.raise.Goals as goal

pub u32_at-requires : goal.u32_at-requires
u32_at-requires c =
    omega (arith, ap length c.block.ensures, length-blk_of _ _ c.requires.fine.0 _ c.requires.k_bound)

pub returns-then-u32_at-len : goal.returns-then-u32_at-len
returns-then-u32_at-len c =
    changed-low _ _ c.requires.fine.0 _ _ _ _ c.requires.k_bound (c.u32_at.ensures ∙ ap number_of c.block.ensures) c.if-u32_at-len.true

pub returns : goal.returns
returns c =
    let k = c.args.k in
    let v = view c.args.arena.now c.args.work.now in
    changed-high _ _ c.requires.fine.0 k _ c.args.len (put_blk v k (seal (le_put (blk v k) 20 4 c.args.len))) _ c.requires.k_bound (c.u32_at.ensures ∙ ap number_of c.block.ensures) c.if-u32_at-len.false c.set_length.ensures
