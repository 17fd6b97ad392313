-- `climbs::read_slots`: the slots before k could be read.
use Rattle.base.specs.Out.{done}
use Rattle.sefs.specs.Move.{read_slots}
use Rattle.mem.specs.State.{fs_at}
use lib.ListN.{length}
use mathlib.Core.Path.{◌≡◌}
use Rattle.climbs.proofs.read_slots.Given as goal

abbrev pub invariant-loop-k : goal.invariant-loop-k
invariant-loop-k l = (length l.slot ≡ 264) × (read_slots (fs_at l.arena l.mem) l.d l.k ≡ done (fs_at l.arena l.mem))
