-- `calls_inventory::places::slot_of`: no slot before the one that it stops at names the id.
use mathlib.Core.Path.{◌≡◌}
use mathlib.Core.Logic.{◌≢◌}
use Prim.Native.Nat.{ℕ, ◌≤◌, ◌<◌}
use Rattle.structs.specs.declared.DiskINode.{DiskINode}
use Rattle.rules.specs.Image.{slot_in}
use Rattle.calls_inventory.proofs.places.slot_of.Given as goal

abbrev pub invariant-loop-k : goal.invariant-loop-k
invariant-loop-k l = (r : DiskINode) → r.file ≡ l.file → (j : ℕ) → 2 ≤ j → j < l.k → (slot_in l.arena r j).id ≢ l.id
