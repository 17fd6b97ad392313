-- `list_slots::slots::list_write`: the slots before k are written.
use mathlib.Core.Path.{◌≡◌}
use Prim.Native.Nat.{◌*◌}
use lib.ListN.{length}
use Rattle.sefs.specs.Read.{list_to}
use Rattle.calls.specs.Answers.{Laid}
use Rattle.list_slots.proofs.slots.list_write.Given as goal

abbrev pub invariant-loop-k : goal.invariant-loop-k
invariant-loop-k l = (length l.out ≡ length l.initial.out) × Laid (list_to l.arena l.rec l.at l.k) l.initial.out l.out (264 * l.k) 0
