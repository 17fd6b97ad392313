-- `list_slots::slots::list_check`: the slots before k can be listed.
use mathlib.Core.Path.{◌≡◌}
use lib.ListN.{length}
use Rattle.base.specs.Out.{done}
use Rattle.sefs.specs.Read.{list_to}
use Rattle.list_slots.specs.List.{whether}
use Rattle.list_slots.proofs.slots.list_check.Given as goal

abbrev pub invariant-loop-k : goal.invariant-loop-k
invariant-loop-k l = (length l.slot ≡ length l.initial.slot) × (whether (list_to l.arena l.rec l.at l.k) ≡ done tt)
