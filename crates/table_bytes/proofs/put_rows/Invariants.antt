-- `table_bytes::put_rows`: the first i are laid over what was there.
use Prim.Native.Nat.{ℕ, ◌<◌}
use mathlib.Core.Path.{◌≡◌}
use lib.ListN.{length, get_or}
use Rattle.base.specs.Parts.{paste}
use Rattle.table.specs.Table.{off_row}
use Rattle.table_bytes.specs.Runs.{run_to}
use Rattle.table_bytes.specs.Layout.{row_bytes}
use Rattle.table_bytes.proofs.put_rows.Given as goal

abbrev pub invariant-loop-i : goal.invariant-loop-i
invariant-loop-i l =
    ((j : ℕ) → j < l.i → length (row_bytes (get_or l.fn.rows j off_row)) ≡ 117)
    × (l.out ≡ paste l.initial.out 0 (run_to (λ j. row_bytes (get_or l.fn.rows j off_row)) l.i))
