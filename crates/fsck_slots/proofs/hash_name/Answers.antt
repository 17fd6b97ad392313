-- `fsck_slots::hash_name`: the hash of the bytes passed.
use native.Mathlib.Omega.{arith}
use Rattle.fsck_slots.proofs.Names.{hash-none, hash-more, hash-all}
use Rattle.fsck_slots.proofs.hash_name.Goals as goal

pub loop-b-init : goal.loop-b-init
loop-b-init c = (omega arith, hash-none c.args.name.now)

pub loop-b-preserved : goal.loop-b-preserved
loop-b-preserved c =
    (omega arith, hash-more c.args.name.now c.loop-b.h c.loop-b.b-index _ c.loop-b.invariant.1 c.from.ensures)

pub returns : goal.returns
returns c =
    hash-all c.args.name.now c.loop-b.h c.loop-b.b-index c.loop-b.invariant.1 (omega arith) (omega arith)
