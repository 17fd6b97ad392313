-- `mend_plan::given_back`: the head of a file that goes names the file.
use mathlib.Core.Path.{◌≡◌}
use Prim.Native.Nat.{◌*◌, ◌≤◌}
use Rattle.mending.specs.Room.{given_back_to}
use Rattle.mend_plan.proofs.given_back.Given as goal

abbrev pub invariant-loop-id : goal.invariant-loop-id
invariant-loop-id l = (l.c ≤ 4096 * l.id) × (l.c ≡ given_back_to l.arena l.id)
