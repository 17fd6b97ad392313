-- `arena::free_count`: after k turns the count is the definition's at k.
use mathlib.Core.Path.{◌≡◌}
use Prim.Native.Nat.{◌≤◌}
use Rattle.base.specs.Count.{count_to}
use Rattle.arena.specs.Blocks.{blk}
use Rattle.arena.specs.Fields.{is_free}
use Rattle.arena.proofs.free_count.Given as goal

abbrev pub invariant-loop-k : goal.invariant-loop-k
invariant-loop-k l = (l.count ≡ count_to (λ j. is_free (blk l.arena j)) l.k) × (l.count ≤ l.k)
