-- `structs::put_numbers`: eight fields, one after another.
use native.Mathlib.Omega.{arith}
use Rattle.le.proofs.Laws.{length-le_bytes}
use Rattle.le.specs.Le.{le_put}
use Rattle.structs.specs.Layout.{record_fields}
use Rattle.structs.proofs.Joins.{laid-first, laid_next, laid-last}
use Rattle.structs.proofs.put_numbers.Goals as goal

pub returns : goal.returns
unfolding record_fields le_put
returns c =
    (laid-first 8 _ _ _ _ _ _ (length-le_bytes 8 _) c.put_u64.auto.s c.put_u64.ensures
    (laid_next 8 4 _ _ _ _ _ _ (length-le_bytes 4 _) c.put_u32.auto.s c.put_u32.ensures
    (laid_next 12 2 _ _ _ _ _ _ (length-le_bytes 2 _) c.put_u16.auto.s c.put_u16.ensures
    (laid_next 14 2 _ _ _ _ _ _ (length-le_bytes 2 _) c.put_u16-2.auto.s c.put_u16-2.ensures
    (laid_next 16 4 _ _ _ _ _ _ (length-le_bytes 4 _) c.put_u32-2.auto.s c.put_u32-2.ensures
    (laid_next 20 4 _ _ _ _ _ _ (length-le_bytes 4 _) c.put_u32-3.auto.s c.put_u32-3.ensures
    (laid_next 24 4 _ _ _ _ _ _ (length-le_bytes 4 _) c.put_u32-4.auto.s c.put_u32-4.ensures
    (laid-last _ _ _ _ (omega (arith, length-le_bytes 4 c.args.r.pad)) c.put_u32-5.ensures)))))))).is
