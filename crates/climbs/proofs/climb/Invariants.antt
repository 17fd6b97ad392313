-- `climbs::climb`: what is left of the climb after the turns so far.
use Prim.Native.Nat.{◌-◌}
use Rattle.std.specs.Result.{result_unwrap_or}
use Rattle.base.specs.Told.{code}
use Rattle.table.specs.Zero.{zero_record}
use Rattle.mem.specs.State.{fs_at}
use Rattle.climbs.proofs.Climbs.{Climbing}
use Rattle.climbs.proofs.climb.Given as goal

abbrev pub invariant-loop-k : goal.invariant-loop-k
invariant-loop-k l = Climbing (fs_at l.arena l.mem) l.c l.id l.fn.rec (4096 - l.k) l.at (code l.noted) (result_unwrap_or l.noted zero_record)
