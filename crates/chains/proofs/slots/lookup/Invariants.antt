-- `chains::slots::lookup`: the slots before k were passed.
use mathlib.Core.Path.{◌≡◌}
use lib.ListN.{length}
use Rattle.base.specs.Out.{done}
use Rattle.sefs.specs.Slots.{look_to}
use Rattle.chains.proofs.slots.lookup.Given as goal

abbrev pub invariant-loop-k : goal.invariant-loop-k
invariant-loop-k l = (length l.slot ≡ 264) × (look_to l.arena l.rec l.name l.k ≡ done l.k)
