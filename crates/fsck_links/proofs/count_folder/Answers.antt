-- `fsck_links::count_folder`: slot after slot.
use mathlib.Core.Path.{refl, ◌∙◌}
use Prim.Native.Nat.{◌%◌}
use native.Mathlib.Omega.{arith}
use Rattle.fsck_links.proofs.Counts.{slot-size, slot-id, folder-none, folder-more, folder-all}
use Rattle.fsck_links.proofs.count_folder.Goals as goal

pub loop-k-init : goal.loop-k-init
loop-k-init c = (omega arith, (refl, λ f H. folder-none c.args.arena.now c.args.rec f c.args.counts.now H))

pub loop-k-preserved : goal.loop-k-preserved
loop-k-preserved c =
    let q = slot-id c.args.arena.now _ c.args.rec c.loop-k.k c.index-id.result c.loop-k.auto.k (omega (arith, c.index-k-end.ensures)) c.requires.below.0 c.read_slot.ensures (c.index-id.ensures ∙ c.u32_at.ensures) in (
      omega arith,
      (
        slot-size c.args.arena.now _ c.args.rec c.loop-k.k c.read_slot.ensures,
        λ f H. folder-more c.args.arena.now c.args.rec f c.loop-k.counts c.loop-k.k (c.index-id.result % 4096) c.more.result c.loop-k.auto.k (omega arith) q c.more.ensures (c.loop-k.invariant.1.1 f H),
      ),
    )

pub returns : goal.returns
returns c =
    λ f H. folder-all c.args.arena.now c.args.rec f c.loop-k.counts c.loop-k.k c.index-k-end.result c.index-k-end.ensures c.loop-k.auto.k (omega arith) c.loop-k.invariant.0 (c.loop-k.invariant.1.1 f H)
