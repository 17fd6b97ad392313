-- `le::u8_at`: one byte is its own number.
use native.Mathlib.Omega.{arith}
use mathlib.Core.Path.{sym}
use Rattle.le.proofs.Laws.{le_at-one}
use Rattle.le.proofs.u8_at.Goals as goal

pub returns : goal.returns
returns c = sym (le_at-one _ _ (omega arith))
