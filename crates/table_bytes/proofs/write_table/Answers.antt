-- `table_bytes::write_table`: three fields, one after another.
use native.Mathlib.Omega.{arith}
use Rattle.le.specs.Le.{le_put}
use Rattle.le.proofs.Laws.{length-le_bytes}
use Rattle.structs.proofs.Joins.{laid-first, laid_next, laid-last}
use Rattle.table_bytes.specs.Layout.{bytes_of_table, table_fields}
use Rattle.table_bytes.proofs.Runs.{length_run}
use Rattle.table_bytes.proofs.Layouts.{length-hold_bytes}
use Rattle.table_bytes.proofs.write_table.Goals as goal

pub returns : goal.returns
unfolding bytes_of_table table_fields le_put
returns c =
    (laid-first 3978 _ _ _ 0 _ _ (length_run 117 _ 34 c.put_rows.ensures.1) c.put_rows.auto.out c.put_rows.ensures.0
    (laid_next 3978 416 _ _ _ 0 _ _ (length_run 13 _ 32 (λ i k. length-hold_bytes _)) c.put_holds.auto.out c.put_holds.ensures
    (laid-last _ _ 4394 _ (omega (arith, length-le_bytes 8 c.args.t.next)) c.put_u64.ensures))).is
