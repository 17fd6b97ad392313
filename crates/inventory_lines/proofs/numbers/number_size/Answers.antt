-- `inventory_lines::numbers::number_size`: k digits are counted when those of m are left, the last of which is counted already.
use native.Mathlib.Omega.{arith}
use Rattle.inventory_lines.proofs.Decimals.{length-low, length_high}
use Rattle.inventory_lines.proofs.numbers.number_size.Goals as goal

pub loop-m-preserved : goal.loop-m-preserved
loop-m-preserved c = omega (arith, length_high c.loop-m.m (omega arith))

pub returns : goal.returns
returns c = omega (arith, length-low c.loop-m.m (omega arith))
