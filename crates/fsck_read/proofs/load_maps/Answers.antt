-- `fsck_read::load_maps`: group after group.
use mathlib.Core.Path.{◌≡◌, refl, sym, ◌∙◌, subst}
use Prim.Native.Nat.{◌+◌, ◌*◌}
use native.Mathlib.Omega.{arith}
use Rattle.fsck_read.specs.Loaded.{Mapped}
use Rattle.fsck_read.proofs.Loads.{mapped-none, mapped-more}
use Rattle.fsck_read.proofs.load_maps.Goals as goal

pub loop-g-init : goal.loop-g-init
loop-g-init c = mapped-none c.args.arena.now c.args.mem.now c.requires.mem_len.0

pub slice_bounds-read_meta-start : goal.slice_bounds-read_meta-start
slice_bounds-read_meta-start c = omega (arith, c.loop-g.invariant.size)

pub slice_bounds-read_meta-end : goal.slice_bounds-read_meta-end
slice_bounds-read_meta-end c = omega (arith, c.loop-g.invariant.size)

pub loop-g-preserved : goal.loop-g-preserved
loop-g-preserved c =
    mapped-more c.args.arena.now c.args.mem.now c.loop-g.mem _ c.loop-g.g (4419 + 128 * c.loop-g.g) refl (omega (arith, c.requires.mem_len.1)) c.loop-g.invariant c.read_meta.ensures

pub shape_of-mem : goal.shape_of-mem
shape_of-mem c = c.loop-g.invariant.size ∙ sym c.requires.mem_len.0

pub returns : goal.returns
returns c =
    let e : c.loop-g.g ≡ c.args.groups = omega arith in
    subst (Mapped c.args.arena.now c.args.mem.now c.loop-g.mem) e c.loop-g.invariant
