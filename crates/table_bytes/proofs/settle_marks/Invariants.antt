-- `table_bytes::settle_marks`: the first i marks are settled.
use Rattle.table_bytes.proofs.Marks.{Settled}
use Rattle.table_bytes.proofs.settle_marks.Given as goal

abbrev pub invariant-loop-i : goal.invariant-loop-i
invariant-loop-i l = Settled l.initial.table l.table l.i
