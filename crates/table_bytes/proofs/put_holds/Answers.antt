-- `table_bytes::put_holds`: the first i are laid over what was there.
use mathlib.Core.Path.{◌≡◌, refl}
use native.Mathlib.Omega.{arith}
use Rattle.table_bytes.proofs.Runs.{lay-none, run-lay}
use Rattle.table_bytes.proofs.Layouts.{length-hold_bytes}
use Rattle.table_bytes.proofs.put_holds.Goals as goal

pub loop-i-init : goal.loop-i-init
loop-i-init c = lay-none _ _ 3978

pub loop-i-preserved : goal.loop-i-preserved
loop-i-preserved c =
    run-lay 13 _ _ _ _ 3978 _ _ (λ j k. length-hold_bytes _) refl (omega arith) c.loop-i.invariant c.put_hold.ensures

pub returns : goal.returns
returns c =
    let e : c.loop-i.i ≡ 32 = omega arith in
    rw e at c.loop-i.invariant
