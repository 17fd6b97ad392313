-- `fsck_links::subfolders`: no more than the slots passed.
use mathlib.Core.Path.{refl}
use native.Mathlib.Omega.{arith}
use Rattle.fsck_links.proofs.Counts.{slot-size, sub-none, sub_more, sub-all}
use Rattle.fsck_links.proofs.subfolders.Goals as goal

pub loop-k-init : goal.loop-k-init
loop-k-init c = (omega arith, (omega arith, (refl, sub-none c.args.arena.now c.args.rec)))

pub loop-k-preserved : goal.loop-k-preserved
loop-k-preserved c = (
  omega arith,
  (
    omega arith,
    (
      slot-size c.args.arena.now _ c.args.rec c.loop-k.k c.read_slot.ensures,
      sub_more c.args.arena.now c.args.rec _ c.loop-k.k c.loop-k.c c.u32_at.result c.one-c.result c.loop-k.auto.k c.read_slot.ensures c.u32_at.ensures c.one-c.ensures.0 c.loop-k.invariant.1.1.1,
    ),
  ),
)

pub returns : goal.returns
returns c =
    sub-all c.args.arena.now c.args.rec c.loop-k.k c.index-k-end.result c.loop-k.c c.index-k-end.ensures c.loop-k.auto.k (omega arith) c.loop-k.invariant.0 c.loop-k.invariant.1.1.1
