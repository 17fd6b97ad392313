-- `le::u64_at`: two numbers of half the width, by the one law for reading.
use native.Mathlib.Omega.{arith}
use Rattle.le.proofs.Laws.{read-two}
use Rattle.le.proofs.u64_at.Goals as goal

pub returns : goal.returns
returns c = read-two 4 _ _ _ _ (omega arith) c.u32_at-low.ensures c.u32_at-high.ensures
