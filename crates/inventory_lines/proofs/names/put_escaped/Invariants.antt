-- `inventory_lines::names::put_escaped`: before a turn the bytes so far stand from `at` on, and end at e.
use mathlib.Core.Path.{◌≡◌}
use Prim.Native.Nat.{◌+◌}
use lib.ListN.{length, take}
use Rattle.base.specs.Parts.{paste}
use Rattle.inventory.specs.Text.{escape}
use Rattle.inventory_lines.proofs.names.put_escaped.Given as goal

abbrev pub invariant-loop-b : goal.invariant-loop-b
invariant-loop-b l = (l.e ≡ l.at + length (escape (take l.b-index l.name))) × (l.out ≡ paste l.initial.out l.at (escape (take l.b-index l.name)))
