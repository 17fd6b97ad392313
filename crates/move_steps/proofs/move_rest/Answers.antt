-- `move_steps::move_rest`: the replaced node, then the moved one; 18 blocks and 22.
use Rattle.std.proofs.lemmas.Result.{err_from_is_err_and}
use Rattle.base.proofs.Tells.{number-ne}
use mathlib.Core.Path.{refl}
use Rattle.base.proofs.Outs.{went-has}
use Rattle.move_steps.proofs.Steps.{rest-stop, rest-next}
use native.Mathlib.Omega.{arith}
use Rattle.move_steps.proofs.move_rest.Goals as goal

pub remove_gone-requires : goal.remove_gone-requires
remove_gone-requires c =
    (c.requires.0, (omega (arith, c.requires.1.0), (c.requires.1.1.1.0, c.requires.1.1.1.1)))

pub returns-in_err-remove_gone : goal.returns-in_err-remove_gone
returns-in_err-remove_gone c =
    let p = err_from_is_err_and c.from_residual.result c.from_residual.ensures.1 in
    rw (p.1, p.2) (rest-stop _ c.args.i c.args.j c.args.id c.args.gone c.in_err-remove_gone.ensures _ _ (number-ne c.in_err-remove_gone.field-0.0))

pub move_open-requires : goal.move_open-requires
move_open-requires c =
    let k = went-has c.in_ok-remove_gone.ensures refl in
    (record { fine = k.fine; whole = k.whole }, (omega (arith, k.room, c.requires.1.0), (c.requires.1.1.0, c.requires.1.1.1.0)))

pub returns : goal.returns
returns c =
    rest-next _ c.args.i c.args.j c.args.id c.args.gone c.in_ok-remove_gone.ensures refl c.move_open.ensures
