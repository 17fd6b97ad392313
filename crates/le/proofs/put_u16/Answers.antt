-- `le::put_u16`: two numbers of half the width, by the one law for writing.
use native.Mathlib.Omega.{arith}
use Rattle.le.proofs.Laws.{write_two}
use Rattle.le.proofs.put_u16.Goals as goal

pub returns : goal.returns
returns c = write_two 1 _ _ _ _ _ (omega arith) c.put_u8.ensures c.put_u8-2.ensures
