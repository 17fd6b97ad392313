-- `move_steps::end_folders`: slot 1, then the records; 3 blocks and 6.
use Rattle.std.proofs.lemmas.Result.{err_from_is_err_and}
use Rattle.base.proofs.Tells.{number-ne}
use mathlib.Core.Path.{refl}
use native.Mathlib.Omega.{arith}
use Rattle.base.proofs.Outs.{went-has}
use Rattle.move_steps.proofs.Steps.{folders-stop, folders-done}
use Rattle.move_steps.proofs.end_folders.Goals as goal

pub returns-in_err-move_parent : goal.returns-in_err-move_parent
returns-in_err-move_parent c =
    let p = err_from_is_err_and c.from_residual.result c.from_residual.ensures.1 in
    rw (p.1, p.2) (folders-stop _ c.args.i c.args.j c.args.c c.in_err-move_parent.ensures _ _ (number-ne c.in_err-move_parent.field-0.0))

pub sync_two-requires : goal.sync_two-requires
sync_two-requires c =
    let k = went-has c.in_ok-move_parent.ensures refl in
    (record { fine = k.fine; whole = k.whole }, (omega (arith, k.room, c.requires.1.0), (c.requires.1.1.1.0, c.requires.1.1.0)))

pub returns : goal.returns
returns c =
    folders-done _ c.args.i c.args.j c.args.c c.in_ok-move_parent.ensures refl c.sync_two.ensures
