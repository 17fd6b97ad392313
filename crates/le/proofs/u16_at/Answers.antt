-- `le::u16_at`: two numbers of half the width, by the one law for reading.
use native.Mathlib.Omega.{arith}
use Rattle.le.proofs.Laws.{read-two}
use Rattle.le.proofs.u16_at.Goals as goal

pub returns : goal.returns
returns c = read-two 1 _ _ _ _ (omega arith) c.u8_at-low.ensures c.u8_at-high.ensures
