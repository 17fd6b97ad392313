-- `table_bytes::put_byte`: one byte.
use native.Mathlib.Omega.{arith}
use Rattle.base.proofs.Lists.{set-paste}
use Rattle.table_bytes.proofs.put_byte.Goals as goal

pub returns : goal.returns
returns c = set-paste _ _ _ (omega arith)
