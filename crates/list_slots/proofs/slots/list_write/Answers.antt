-- `list_slots::slots::list_write`: the slots before k are written.
use mathlib.Core.Path.{refl, ◌∙◌}
use Prim.Native.Nat.{◌+◌, ◌*◌}
use native.Mathlib.Omega.{arith}
use Rattle.base.proofs.Lists.{length_part}
use Rattle.calls.proofs.Outputs.{laid-length}
use Rattle.list_slots.proofs.Turns.{write-none, write-next, write-all}
use Rattle.list_slots.proofs.slots.list_write.Goals as goal

pub loop-k-init : goal.loop-k-init
loop-k-init c = (refl, write-none _ c.args.rec c.args.at _ 0 refl)

pub slot_bytes-requires : goal.slot_bytes-requires
slot_bytes-requires c =
    let p = c.requires in
    let k = c.loop-k.k in record { led = p.led; end_value = (p.end_value.0, (p.end_value.1.0, (omega arith, length_part c.loop-k.out (264 * k) (264 * k + 264) (omega arith) (omega arith) ∙ omega arith))) }

pub loop-k-preserved : goal.loop-k-preserved
loop-k-preserved c =
    let N = write-next _ c.args.rec c.args.at c.args.out.now c.args.n c.loop-k.k c.loop-k-test.true c.requires.end_value.1.1.1 c.requires.n_value c.loop-k.invariant.1 c.slot_bytes.ensures in
    (laid-length (omega arith) N, N)

pub shape_of-out : goal.shape_of-out
shape_of-out c = c.loop-k.invariant.0

pub returns : goal.returns
returns c =
    let s = c.args in
    write-all _ s.rec s.at _ s.n c.loop-k.k (omega arith) c.loop-k.invariant.1
