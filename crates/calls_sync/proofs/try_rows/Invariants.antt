-- `calls_sync::try_rows`: what is left to do is what the rows above `low` need, in the arena as it would be.
use mathlib.Core.Path.{◌≡◌}
use Prim.Native.Nat.{◌-◌}
use lib.ListN.{length}
use Rattle.calls_sync.proofs.Syncs.{Trying}
use Rattle.mem.specs.State.{fs_at}
use Rattle.calls_sync.proofs.try_rows.Given as goal

abbrev pub invariant-loop : goal.invariant-loop
invariant-loop l = Trying l.arena (fs_at l.arena l.initial.mem) l.mem l.low (34 - l.counter) l.from l.free × (length l.mem ≡ length l.initial.mem)
