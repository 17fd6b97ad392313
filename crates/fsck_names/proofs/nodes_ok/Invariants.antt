-- `fsck_names::nodes_ok`: id after id.
use mathlib.Core.Path.{◌≡◌}
use mathlib.Core.Bool.{true}
use Prim.Native.Nat.{ℕ, ◌<◌}
use Rattle.mem.specs.Mem.{table_in}
use Rattle.rules.specs.Tests.{node_allowed}
use Rattle.fsck_names.specs.Names.{Claimed}
use Rattle.fsck_names.proofs.nodes_ok.Given as goal

abbrev pub invariant-loop-id : goal.invariant-loop-id
invariant-loop-id l = Claimed l.arena (table_in l.mem) l.claimed l.id × ((i : ℕ) → i < l.id → node_allowed l.arena (table_in l.mem) i ≡ true)
