-- `fsck_read::count_nodes`: no more than the ids passed, and the nodes among them.
use mathlib.Core.Path.{◌≡◌}
use mathlib.Core.List.{List}
use Prim.Native.Nat.{ℕ, ◌≤◌}
use Rattle.base.specs.Count.{count_to}
use Rattle.rules.specs.Image.{is_node}
use Rattle.fsck_read.specs.Loaded.{Of}
use Rattle.fsck_read.proofs.count_nodes.Given as goal

abbrev pub invariant-loop-id : goal.invariant-loop-id
invariant-loop-id l = (l.c ≤ l.id) × ((a : List ℕ) → Of a l.mem → l.c ≡ count_to (is_node a) l.id)
