-- `inventory_lines::names::copy_on`: before turn i the first i bytes stand at `to`. Those that are read lie before it, as they were.
use mathlib.Core.Path.{◌≡◌}
use Prim.Native.Nat.{◌+◌}
use Rattle.base.specs.Parts.{part, paste}
use Rattle.inventory_lines.proofs.names.copy_on.Given as goal

abbrev pub invariant-loop-i : goal.invariant-loop-i
invariant-loop-i l = l.out ≡ paste l.initial.out l.to (part l.initial.out l.from (l.from + l.i))
