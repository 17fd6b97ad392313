-- `fsck_slots::folders_ok`: id after id.
use mathlib.Core.Path.{◌≡◌}
use mathlib.Core.Bool.{true}
use Prim.Native.Nat.{ℕ, ◌<◌}
use Rattle.mem.specs.Mem.{table_in}
use Rattle.fsck_slots.specs.Slots.{folder_fine}
use Rattle.fsck_slots.proofs.folders_ok.Given as goal

abbrev pub invariant-loop-id : goal.invariant-loop-id
invariant-loop-id l = (i : ℕ) → i < l.id → folder_fine l.arena (table_in l.mem) i ≡ true
