-- `le::put_u8`: one byte laid over.
use native.Mathlib.Omega.{arith}
use Rattle.le.proofs.Laws.{le_put-one}
use Rattle.le.proofs.put_u8.Goals as goal

pub returns : goal.returns
returns c = le_put-one _ _ _ (omega arith) (omega arith)
