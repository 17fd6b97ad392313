-- `walk_parts::along`: what the turns so far leave. The measure is the bytes left.
use Rattle.walk_parts.proofs.Alongs.{Passing}
use Rattle.mem.specs.State.{fs_at}
use Prim.Native.Nat.{◌-◌}
use lib.ListN.{length}
use Rattle.walk_parts.proofs.along.Given as goal

abbrev pub invariant-loop-i : goal.invariant-loop-i
invariant-loop-i l = Passing (fs_at l.arena l.mem) l.text l.id l.initial.dir l.at l.dir l.i

abbrev pub decreases-loop-i : goal.decreases-loop-i
decreases-loop-i l = length l.text - l.i
