-- `put_digits`: the place goes down, and what is written keeps the length.
use Rattle.std.proofs.Common.{refl, arith, length-set}
use Rattle.script.proofs.text.put_digits.Goals as goal

pub loop-i-init : goal.loop-i-init
loop-i-init c = (omega arith, omega arith, refl)

pub shape_of-digits-then-left-eq0 : goal.shape_of-digits-then-left-eq0
shape_of-digits-then-left-eq0 c = simp length-set c.loop-i.invariant.2

pub returns-then-left-eq0 : goal.returns-then-left-eq0
returns-then-left-eq0 c = (omega arith, omega arith)

pub loop-i-preserved : goal.loop-i-preserved
loop-i-preserved c = (omega arith, omega arith, simp length-set c.loop-i.invariant.2)

pub shape_of-digits : goal.shape_of-digits
shape_of-digits c = c.loop-i.invariant.2

pub returns : goal.returns
returns c = (omega arith, omega arith)
