-- `steps::sync_two`: one row, then the other.
use Rattle.std.proofs.lemmas.Result.{err_from_is_err_and}
use Rattle.base.proofs.Tells.{number-ne}
use mathlib.Core.Path.{refl}
use native.Mathlib.Omega.{arith}
use Rattle.base.proofs.Outs.{went-has}
use Rattle.folders.proofs.States.{still-ready}
use Rattle.steps.proofs.Steps.{sync-stop, sync-done}
use Rattle.steps.proofs.sync_two.Goals as goal

pub returns-in_err-sync_row : goal.returns-in_err-sync_row
returns-in_err-sync_row c =
    let p = err_from_is_err_and c.from_residual.result c.from_residual.ensures.1 in
    rw (p.1, p.2) (sync-stop _ c.args.i c.args.c c.in_err-sync_row.ensures _ _ (number-ne c.in_err-sync_row.field-0.0))

pub sync_row-requires-2 : goal.sync_row-requires-2
sync_row-requires-2 c =
    let g = went-has c.in_ok-sync_row.ensures refl in
    (still-ready g, (omega (arith, g.room, c.requires.1.0), c.requires.1.1.0))

pub returns : goal.returns
returns c =
    sync-done _ c.args.i c.args.c c.in_ok-sync_row.ensures refl c.sync_row-2.ensures
