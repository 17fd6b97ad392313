-- `rows::next_row`: among the rows passed, `best` has the lowest id above `after`, which is `least`.
use Rattle.table.specs.Table.{row_at}
use Rattle.table.proofs.Next.{Best}
use Rattle.mem.specs.Mem.{table_in}
use Rattle.rows.proofs.next_row.Given as goal

abbrev pub invariant-loop-i : goal.invariant-loop-i
invariant-loop-i l = Best (λ j. (row_at (table_in l.mem) j).id) l.after l.i l.best l.least
