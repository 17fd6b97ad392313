-- `calls_sync::store_rows`: what is left to do is what the rows above `low` need, and it can be done.
use mathlib.Core.Path.{◌≡◌}
use mathlib.Core.Bool.{true}
use Prim.Native.Nat.{◌-◌}
use lib.ListN.{length}
use Rattle.arena.specs.Blocks.{legal}
use Rattle.calls_sync.proofs.Syncs.{Turn}
use Rattle.mem.specs.State.{fs_at}
use Rattle.calls_sync.proofs.store_rows.Given as goal

abbrev pub invariant-loop : goal.invariant-loop
invariant-loop l = Turn (fs_at l.initial.arena l.initial.mem) l.arena l.mem l.low (34 - l.counter) × ((legal l.arena ≡ true) × ((length l.arena ≡ length l.initial.arena) × (length l.mem ≡ length l.initial.mem)))
