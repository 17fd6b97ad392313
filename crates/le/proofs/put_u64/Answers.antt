-- `le::put_u64`: two numbers of half the width, by the one law for writing.
use native.Mathlib.Omega.{arith}
use Rattle.le.proofs.Laws.{write_two}
use Rattle.le.proofs.put_u64.Goals as goal

pub returns : goal.returns
returns c = write_two 4 _ _ _ _ _ (omega arith) c.put_u32.ensures c.put_u32-2.ensures
