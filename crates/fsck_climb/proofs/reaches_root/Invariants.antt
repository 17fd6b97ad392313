-- `fsck_climb::reaches_root`: each step leads to an id of the maps.
use mathlib.Core.Path.{◌≡◌}
use Prim.Native.Nat.{◌<◌}
use Rattle.fsck_climb.specs.Way.{climb_by}
use Rattle.fsck_climb.proofs.Ways.{Past}
use Rattle.fsck_climb.proofs.reaches_root.Given as goal

abbrev pub invariant-loop : goal.invariant-loop
invariant-loop l = (l.at < 4096) × ((l.at ≡ climb_by l.parents l.id l.counter) × Past l.parents l.id l.counter)
