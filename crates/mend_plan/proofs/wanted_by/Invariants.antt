-- `mend_plan::wanted_by`: the fate tells which records are stored.
use mathlib.Core.Path.{◌≡◌}
use mathlib.Core.Bool.{true}
use mathlib.Core.List.{List}
use Prim.Native.Nat.{ℕ, ◌*◌, ◌≤◌}
use Rattle.mending.specs.Mendable.{mendable}
use Rattle.mending.specs.Room.{wanted_to}
use Rattle.mend_plan.specs.Plan.{Fated, Placed}
use Rattle.mend_plan.proofs.wanted_by.Given as goal

abbrev pub invariant-loop-id : goal.invariant-loop-id
invariant-loop-id l = (l.c ≤ 2 * l.id) × ((a : List ℕ) → mendable a ≡ true → Fated a l.work l.n → Placed a l.places → l.c ≡ wanted_to a l.id)
