-- `inventory_lines::names::escaped_size`: before a turn n is the size of the bytes so far.
use mathlib.Core.Path.{◌≡◌}
use Prim.Native.Nat.{◌*◌, ◌≤◌}
use lib.ListN.{length, take}
use Rattle.inventory.specs.Text.{escape}
use Rattle.inventory_lines.proofs.names.escaped_size.Given as goal

abbrev pub invariant-loop-b : goal.invariant-loop-b
invariant-loop-b l = (l.n ≡ length (escape (take l.b-index l.name))) × (l.n ≤ 3 * l.b-index)
