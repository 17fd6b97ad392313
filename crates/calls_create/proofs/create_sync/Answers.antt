-- `calls_create::create_sync`: superblock and maps, then two rows.
use Rattle.std.proofs.lemmas.Result.{err_from_is_err_and}
use Rattle.base.proofs.Tells.{number-ne}
use mathlib.Core.Path.{refl}
use native.Mathlib.Omega.{arith}
use Rattle.base.proofs.Outs.{went-has}
use Rattle.folders.proofs.States.{still-ready}
use Rattle.calls_create.proofs.Creates.{all-stop, all_done}
use Rattle.calls_create.proofs.create_sync.Goals as goal

pub returns-in_err-sync_meta : goal.returns-in_err-sync_meta
returns-in_err-sync_meta c =
    let p = err_from_is_err_and c.from_residual.result c.from_residual.ensures.1 in
    rw (p.1, p.2) (all-stop _ c.args.i c.args.c c.in_err-sync_meta.ensures _ _ (number-ne c.in_err-sync_meta.field-0.0))

pub sync_two-requires : goal.sync_two-requires
sync_two-requires c =
    let g = went-has c.in_ok-sync_meta.ensures refl in
    (still-ready g, (omega (arith, g.room, c.requires.1.0), c.requires.1.1))

pub returns : goal.returns
returns c =
    all_done _ c.args.i c.args.c c.in_ok-sync_meta.ensures refl c.sync_two.ensures
