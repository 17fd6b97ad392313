-- `mem::row_held`: no hold that the loop passed names the row.
use Prim.Native.Nat.{ℕ, ◌<◌}
use mathlib.Core.Path.{◌≡◌}
use mathlib.Core.Bool.{false}
use Rattle.table.specs.Table.{names_row}
use Rattle.mem.specs.Mem.{table_in}
use Rattle.mem.proofs.row_held.Given as goal

abbrev pub invariant-loop-n : goal.invariant-loop-n
invariant-loop-n l = (j : ℕ) → j < l.n → names_row (table_in l.mem) l.i j ≡ false
