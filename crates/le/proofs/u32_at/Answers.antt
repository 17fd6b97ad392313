-- `le::u32_at`: two numbers of half the width, by the one law for reading.
use native.Mathlib.Omega.{arith}
use Rattle.le.proofs.Laws.{read-two}
use Rattle.le.proofs.u32_at.Goals as goal

pub returns : goal.returns
returns c = read-two 2 _ _ _ _ (omega arith) c.u16_at-low.ensures c.u16_at-high.ensures
