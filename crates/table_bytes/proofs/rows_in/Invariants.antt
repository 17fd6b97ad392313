-- `table_bytes::rows_in`: the first i are read.
use Rattle.table.specs.Table.{off_row}
use Rattle.table_bytes.specs.Layout.{row_at_place}
use Rattle.table_bytes.proofs.Runs.{Filled}
use Rattle.table_bytes.proofs.rows_in.Given as goal

abbrev pub invariant-loop-i : goal.invariant-loop-i
invariant-loop-i l = Filled (row_at_place l.s) off_row 34 l.row-items l.i
