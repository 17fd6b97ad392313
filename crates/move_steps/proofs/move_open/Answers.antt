-- `move_steps::move_open`: the moved node, then the rest.
use Rattle.std.proofs.lemmas.Result.{err_from_is_err_and}
use Rattle.base.proofs.Tells.{number-ne}
use mathlib.Core.Path.{refl}
use Rattle.base.proofs.Outs.{went-has}
use Rattle.move_steps.proofs.Steps.{open-stop, open_next}
use Rattle.move_steps.proofs.move_open.Goals as goal

pub returns-in_err-row : goal.returns-in_err-row
returns-in_err-row c =
    let p = err_from_is_err_and c.from_residual.result c.from_residual.ensures.1 in
    rw (p.1, p.2) (open-stop _ _ _ _ c.args.i c.args.j c.args.id _ c.in_err-row.ensures _ _ (number-ne c.in_err-row.field-0.0))

pub move_end-requires : goal.move_end-requires
move_end-requires c =
    let k = went-has c.in_ok-row.ensures refl in
    (record { fine = c.requires.0.fine; whole = k.0 }, (c.requires.1.0, (c.requires.1.1.0, (c.requires.1.1.1, k.1))))

pub returns : goal.returns
returns c =
    open_next _ _ _ _ c.args.i c.args.j c.args.id _ c.in_ok-row.ensures refl c.move_end.ensures
