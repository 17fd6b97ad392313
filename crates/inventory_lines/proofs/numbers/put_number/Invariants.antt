-- `inventory_lines::numbers::put_number`: the digits behind e are laid, those of m are left.
use Rattle.inventory_lines.proofs.Backwards.{Behind}
use Rattle.inventory_lines.proofs.numbers.put_number.Given as goal

abbrev pub invariant-loop-m : goal.invariant-loop-m
invariant-loop-m l = Behind l.initial.out l.at l.n l.out l.m l.e

abbrev pub decreases-loop-m : goal.decreases-loop-m
decreases-loop-m l = l.m
