-- `move_steps::move_steps`: the slot is found, and moved by another name.
use Rattle.std.proofs.lemmas.Result.{err_from_is_err_and}
use Rattle.base.proofs.Tells.{number-ne}
use mathlib.Core.Path.{refl}
use mathlib.Core.Path.{◌∙◌}
use Rattle.move_steps.proofs.Steps.{named-stop, named-next}
use Rattle.move_steps.proofs.move_steps.Goals as goal

pub find_slot-requires : goal.find_slot-requires
find_slot-requires c =
    (c.requires.0, (c.requires.1.1.0, c.requires.1.1.1.1.1.0))

pub returns-in_err-place : goal.returns-in_err-place
returns-in_err-place c =
    let p = err_from_is_err_and c.from_residual.result c.from_residual.ensures.1 in
    rw (p.1, p.2) (named-stop _ _ _ c.args.i c.args.j c.args.old.now c.args.name.now _ _ _ c.args.gone c.in_err-place.ensures _ (number-ne c.in_err-place.field-0.0))

pub rename-requires : goal.rename-requires
rename-requires c =
    (c.find_slot.auto.slot ∙ c.requires.1.1.1.1.1.0, c.requires.1.1.1.1.0)

pub move_slot-requires : goal.move_slot-requires
move_slot-requires c =
    (c.requires.0, (c.requires.1.0, (c.requires.1.1.0, (c.requires.1.1.1.0, (c.rename.auto.slot ∙ c.find_slot.auto.slot ∙ c.requires.1.1.1.1.1.0, c.requires.1.1.1.1.1.1)))))

pub returns : goal.returns
returns c =
    named-next _ _ _ c.args.i c.args.j c.args.old.now c.args.name.now _ _ _ c.args.gone c.in_ok-place.ensures _ c.rename.ensures refl c.move_slot.ensures
