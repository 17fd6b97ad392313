-- `table_bytes::holds_in`: the first i are read.
use Rattle.table.specs.Zero.{zero_hold}
use Rattle.table_bytes.specs.Layout.{hold_at_place}
use Rattle.table_bytes.proofs.Runs.{Filled}
use Rattle.table_bytes.proofs.holds_in.Given as goal

abbrev pub invariant-loop-i : goal.invariant-loop-i
invariant-loop-i l = Filled (hold_at_place l.s) zero_hold 32 l.hold-items l.i
