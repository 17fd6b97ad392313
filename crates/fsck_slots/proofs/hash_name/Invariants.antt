-- `fsck_slots::hash_name`: the hash of the bytes passed.
use mathlib.Core.Path.{◌≡◌}
use Prim.Native.Nat.{◌<◌}
use Rattle.fsck_slots.specs.Hash.{hash_to}
use Rattle.fsck_slots.proofs.hash_name.Given as goal

abbrev pub invariant-loop-b : goal.invariant-loop-b
invariant-loop-b l = (l.h < 65521) × (l.h ≡ hash_to l.name l.b-index)
