-- `fsck_slots::in_slots`: none of the slots passed has the name.
use mathlib.Core.Path.{◌≡◌}
use mathlib.Core.Bool.{false}
use Prim.Native.Nat.{ℕ, ◌<◌}
use Rattle.fsck_slots.specs.Slots.{bears}
use Rattle.fsck_slots.proofs.in_slots.Given as goal

abbrev pub invariant-loop-j : goal.invariant-loop-j
invariant-loop-j l = (i : ℕ) → i < l.j → bears l.arena l.rec l.name i ≡ false
