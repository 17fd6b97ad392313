-- `calls_format::sync_both`: superblock and maps, then the record.
use Rattle.std.proofs.lemmas.Result.{err_from_is_err_and}
use Rattle.base.proofs.Tells.{number-ne}
use mathlib.Core.Path.{refl}
use native.Mathlib.Omega.{arith}
use Rattle.base.proofs.Outs.{went-has}
use Rattle.folders.proofs.States.{still-ready}
use Rattle.calls_format.proofs.Formats.{both-stop, both-done}
use Rattle.calls_format.proofs.sync_both.Goals as goal

pub returns-in_err-sync_meta : goal.returns-in_err-sync_meta
returns-in_err-sync_meta c =
    let p = err_from_is_err_and c.from_residual.result c.from_residual.ensures.1 in
    rw (p.1, p.2) (both-stop _ c.args.i c.in_err-sync_meta.ensures _ _ (number-ne c.in_err-sync_meta.field-0.0))

pub sync_row-requires : goal.sync_row-requires
sync_row-requires c =
    let g = went-has c.in_ok-sync_meta.ensures refl in
    (still-ready g, (omega (arith, g.room, c.requires.1.0), c.requires.1.1))

pub returns : goal.returns
returns c =
    both-done _ c.args.i c.in_ok-sync_meta.ensures refl c.sync_row.ensures
