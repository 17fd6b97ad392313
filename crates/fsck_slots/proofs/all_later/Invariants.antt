-- `fsck_slots::all_later`: the slots passed are as they must be, and their hashes are kept.
use mathlib.Core.Path.{◌≡◌}
use mathlib.Core.Bool.{true}
use Prim.Native.Nat.{ℕ, ◌<◌}
use Rattle.mem.specs.Mem.{table_in}
use Rattle.fsck_slots.specs.Hash.{Hashed}
use Rattle.fsck_slots.specs.Slots.{slot_allowed}
use Rattle.fsck_slots.proofs.all_later.Given as goal

abbrev pub invariant-loop-j : goal.invariant-loop-j
invariant-loop-j l = Hashed l.arena l.rec l.hashes l.j × ((i : ℕ) → i < l.j → slot_allowed l.arena (table_in l.mem) l.rec i ≡ true)
