-- `holds::find_hold`: no hold that the loop passed has the stamp.
use Prim.Native.Nat.{ℕ, ◌<◌}
use mathlib.Core.Path.{◌≡◌}
use mathlib.Core.Bool.{false}
use Rattle.table.specs.Table.{is_hold}
use Rattle.mem.specs.Mem.{table_in}
use Rattle.holds.proofs.find_hold.Given as goal

abbrev pub invariant-loop-n : goal.invariant-loop-n
invariant-loop-n l = (j : ℕ) → j < l.n → is_hold (table_in l.mem) l.stamp j ≡ false
