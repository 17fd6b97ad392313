-- `mem::find_row`: no row that the loop passed has the id.
use Prim.Native.Nat.{ℕ, ◌<◌}
use mathlib.Core.Path.{◌≡◌}
use mathlib.Core.Bool.{false}
use Rattle.table.specs.Table.{is_row}
use Rattle.mem.specs.Mem.{table_in}
use Rattle.mem.proofs.find_row.Given as goal

abbrev pub invariant-loop-i : goal.invariant-loop-i
invariant-loop-i l = (j : ℕ) → j < l.i → is_row (table_in l.mem) l.id j ≡ false
