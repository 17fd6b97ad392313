-- `list_slots::slots::list_check`: the slots before k can be listed.
use Rattle.std.proofs.lemmas.Result.{err_from_is_err_and}
use Rattle.base.proofs.Tells.{number-ne}
use mathlib.Core.Path.{refl, ◌∙◌, ap}
use native.Mathlib.Omega.{arith}
use Rattle.list_slots.specs.List.{whether}
use Rattle.list_slots.proofs.Turns.{list_to-none, whether-next, whether-stop, whether-all}
use Rattle.list_slots.proofs.slots.list_check.Goals as goal

pub loop-k-init : goal.loop-k-init
loop-k-init c = (refl, ap whether (list_to-none _ c.args.rec c.args.at))

pub list_slot-requires : goal.list_slot-requires
list_slot-requires c =
    let p = c.requires in record { led = p.led; end_value = (p.end_value.0, (p.end_value.1.0, (omega arith, c.loop-k.invariant.0 ∙ p.end_value.1.1.1))) }

pub shape_of-slot-in_err-list_slot : goal.shape_of-slot-in_err-list_slot
shape_of-slot-in_err-list_slot c = c.list_slot.auto.slot ∙ c.loop-k.invariant.0

pub returns-in_err-list_slot : goal.returns-in_err-list_slot
returns-in_err-list_slot c =
    let p = err_from_is_err_and c.from_residual.result c.from_residual.ensures.1 in
    rw (p.1, p.2) (let s = c.args in
    whether-stop _ s.rec s.at s.n _ c.loop-k-test.true c.loop-k.invariant.1 c.in_err-list_slot.ensures (number-ne c.in_err-list_slot.field-0.0))

pub loop-k-preserved : goal.loop-k-preserved
loop-k-preserved c =
    let s = c.args in (
      c.list_slot.auto.slot ∙ c.loop-k.invariant.0,
      whether-next _ s.rec s.at _ c.loop-k.invariant.1 c.in_ok-list_slot.ensures refl,
    )

pub shape_of-slot : goal.shape_of-slot
shape_of-slot c = c.loop-k.invariant.0

pub returns : goal.returns
returns c =
    let s = c.args in
    whether-all _ s.rec s.at s.n c.loop-k.k (omega arith) c.loop-k.invariant.1
