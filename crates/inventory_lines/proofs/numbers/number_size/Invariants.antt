-- `inventory_lines::numbers::number_size`: k digits are counted when those of m are left, the last of which is counted already.
use mathlib.Core.Path.{◌≡◌}
use Prim.Native.Nat.{◌+◌, ◌≤◌}
use lib.ListN.{length}
use Rattle.inventory.specs.Text.{decimal}
use Rattle.inventory_lines.proofs.numbers.number_size.Given as goal

abbrev pub invariant-loop-m : goal.invariant-loop-m
invariant-loop-m l = (length (decimal l.n) + 1 ≡ l.k + length (decimal l.m)) × (l.k + l.m ≤ l.n + 1)

abbrev pub decreases-loop-m : goal.decreases-loop-m
decreases-loop-m l = l.m
