-- `inplace::drop_file`: after k turns the arena is the definition's at k.
use mathlib.Core.Path.{◌≡◌, refl, ap, ◌∙◌}
use Prim.Native.Nat.{◌+◌, ◌*◌}
use native.Mathlib.Omega.{arith}
use lib.ListN.{length}
use Rattle.base.proofs.Lists.{length_part}
use Rattle.arena.specs.Blocks.{blk, blocks}
use Rattle.arena.specs.Fields.{file}
use Rattle.files.specs.Store.{clear_to, clear_all, is_of}
use Rattle.files.proofs.Clears.{length-clear_to}
use Rattle.inplace.proofs.Clears.{clear-turn}
use Rattle.inplace.proofs.drop_file.Goals as goal

pub loop-k-init : goal.loop-k-init
unfolding clear_to
loop-k-init c = refl

pub slice_bounds-is_of-end : goal.slice_bounds-is_of-end
slice_bounds-is_of-end c =
    omega (arith, ap length c.loop-k.invariant, length-clear_to (is_of (file c.args.which c.args.name.now)) c.args.arena.now c.loop-k.k (omega arith))

pub is_of-yes-requires : goal.is_of-yes-requires
is_of-yes-requires c =
    length_part c.loop-k.arena (512 * c.loop-k.k) (512 * c.loop-k.k + 512) (omega arith) (omega (arith, ap length c.loop-k.invariant, length-clear_to (is_of (file c.args.which c.args.name.now)) c.args.arena.now c.loop-k.k (omega arith))) ∙ omega arith

pub loop-k-preserved : goal.loop-k-preserved
unfolding blk
loop-k-preserved c =
    clear-turn (is_of (file c.args.which c.args.name.now)) c.args.arena.now c.loop-k.arena _ c.loop-k.k c.is_of-yes.result (omega arith) c.loop-k.invariant c.is_of-yes.ensures c.free_at.ensures

pub shape_of-arena : goal.shape_of-arena
shape_of-arena c = ap length c.loop-k.invariant ∙ length-clear_to (is_of (file c.args.which c.args.name.now)) c.args.arena.now c.loop-k.k (omega arith)

pub returns : goal.returns
unfolding clear_all
returns c =
    let e : c.loop-k.k ≡ blocks c.args.arena.now = omega arith in
    c.loop-k.invariant ∙ ap (clear_to (is_of (file c.args.which c.args.name.now)) c.args.arena.now) e
