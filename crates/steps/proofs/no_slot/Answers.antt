-- `steps::no_slot`: by what the lookup found.
use Rattle.std.proofs.lemmas.Result.{err_from_is_err_and}
use Rattle.base.proofs.Tells.{number-ne}
use mathlib.Core.Path.{refl}
use native.Mathlib.Omega.{arith}
use Rattle.steps.proofs.Steps.{slot-stop, slot-there, slot-none}
use Rattle.steps.proofs.no_slot.Goals as goal

pub returns-in_err-place : goal.returns-in_err-place
returns-in_err-place c =
    let p = err_from_is_err_and c.from_residual.result c.from_residual.ensures.1 in
    rw (p.1, p.2) (slot-stop _ c.args.rec _ c.in_err-place.ensures (number-ne c.in_err-place.field-0.0))

pub returns-then-place-index : goal.returns-then-place-index
returns-then-place-index c = slot-there _ c.args.rec _ c.in_ok-place.ensures refl (omega (arith, c.if-place-index.true, c.index.ensures))

pub returns : goal.returns
returns c = slot-none _ c.args.rec _ c.in_ok-place.ensures refl (omega (arith, c.if-place-index.false, c.index.ensures))
