-- `le::put_u32`: two numbers of half the width, by the one law for writing.
use native.Mathlib.Omega.{arith}
use Rattle.le.proofs.Laws.{write_two}
use Rattle.le.proofs.put_u32.Goals as goal

pub returns : goal.returns
returns c = write_two 2 _ _ _ _ _ (omega arith) c.put_u16.ensures c.put_u16-2.ensures
