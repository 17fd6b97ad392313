-- `inventory_lines::numbers::put_number`: the digits behind e are laid, those of m are left.
use Prim.Native.Nat.{◌/◌}
use native.Mathlib.Omega.{arith}
use lib.ListN.{length-set}
use Rattle.inventory_lines.proofs.Decimals.{length_high, length_some}
use Rattle.inventory_lines.proofs.Backwards.{behind-none, behind-fits, behind_more, behind-all}
use Rattle.inventory_lines.proofs.numbers.put_number.Goals as goal

pub overflow_sub-e : goal.overflow_sub-e
overflow_sub-e c = omega (arith, length_some c.args.n)

pub loop-m-init : goal.loop-m-init
loop-m-init c = behind-none _ _ _ _ (omega (arith, length_some c.args.n))

pub bounds-out-e : goal.bounds-out-e
bounds-out-e c = omega (arith, behind-fits _ _ _ _ _ _ c.requires c.loop-m.invariant)

pub overflow_sub-e-in-loop-m : goal.overflow_sub-e-in-loop-m
overflow_sub-e-in-loop-m c = omega (arith, length_high c.loop-m.m (omega arith), length_some (c.loop-m.m / 10))

pub loop-m-preserved : goal.loop-m-preserved
loop-m-preserved c = behind_more _ _ _ _ _ _ c.requires c.loop-m.invariant _ (omega arith) c.digit.ensures

pub bounds-out-e-2 : goal.bounds-out-e-2
bounds-out-e-2 c = omega (arith, behind-fits _ _ _ _ _ _ c.requires c.loop-m.invariant)

pub shape_of-out : goal.shape_of-out
shape_of-out c = simp length-set c.loop-m.invariant.size

pub returns : goal.returns
returns c = (omega arith, behind-all _ _ _ _ _ _ c.requires c.loop-m.invariant _ (omega arith) c.digit-2.ensures)
