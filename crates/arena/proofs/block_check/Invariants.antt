-- `arena::block_check`: after i bytes the sum is the definition's at i, and at most 508 * 255 for each byte.
use mathlib.Core.Path.{◌≡◌}
use Prim.Native.Nat.{◌+◌, ◌*◌, ◌≤◌}
use lib.ListN.{get_or}
use Rattle.base.specs.Count.{sum_to}
use Rattle.arena.proofs.block_check.Given as goal

abbrev pub invariant-loop-i : goal.invariant-loop-i
invariant-loop-i l = (l.sum ≡ sum_to (λ j. (j + 1) * get_or l.part j 0) l.i) × (l.sum ≤ l.i * 129540)
