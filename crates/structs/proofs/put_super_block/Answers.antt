-- `structs::put_super_block`: four fields, one after another.
use native.Mathlib.Omega.{arith}
use Rattle.le.proofs.Laws.{length-le_bytes}
use Rattle.le.specs.Le.{le_put}
use Rattle.structs.specs.Layout.{super_bytes, super_fields}
use Rattle.structs.proofs.Joins.{laid-first, laid_next, laid-last}
use Rattle.structs.proofs.put_super_block.Goals as goal

pub returns : goal.returns
unfolding super_bytes super_fields le_put
returns c =
    (laid-first 4 _ _ _ _ _ _ (length-le_bytes 4 _) c.put_u32.auto.s c.put_u32.ensures
    (laid_next 4 4 _ _ _ _ _ _ (length-le_bytes 4 _) c.put_u32-2.auto.s c.put_u32-2.ensures
    (laid_next 8 4 _ _ _ _ _ _ (length-le_bytes 4 _) c.put_u32-3.auto.s c.put_u32-3.ensures
    (laid-last _ _ _ _ (omega (arith, length-le_bytes 4 c.args.sb.groups)) c.put_u32-4.ensures)))).is
