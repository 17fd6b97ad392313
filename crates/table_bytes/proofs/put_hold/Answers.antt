-- `table_bytes::put_hold`: three fields, one after another.
use native.Mathlib.Omega.{arith}
use Rattle.le.specs.Le.{le_put}
use Rattle.le.proofs.Laws.{length-le_bytes}
use Rattle.structs.proofs.Joins.{laid-first, laid_next, laid-last}
use Rattle.table_bytes.specs.Layout.{hold_bytes, hold_fields}
use Rattle.table_bytes.proofs.put_hold.Goals as goal

pub returns : goal.returns
unfolding hold_bytes hold_fields le_put
returns c =
    (laid-first 4 _ _ _ _ _ _ (length-le_bytes 4 _) c.put_u32.auto.s c.put_u32.ensures
    (laid_next 4 8 _ _ _ _ _ _ (length-le_bytes 8 _) c.put_u64.auto.s c.put_u64.ensures
    (laid-last _ _ _ _ (omega arith) c.put_byte.ensures))).is
