-- `calls_format::fill_root`: three steps, the second in memory alone.
use Rattle.std.proofs.lemmas.Result.{err_from_is_err_and}
use Rattle.base.proofs.Tells.{number-ne}
use mathlib.Core.Path.{refl}
use native.Mathlib.Omega.{arith}
use mathlib.Core.List.{[]}
use Rattle.base.proofs.Outs.{went-has}
use Rattle.folders.proofs.Folders.{id-of}
use Rattle.calls_format.proofs.Formats.{root-stop, root-named, root-done}
use Rattle.calls_format.proofs.fill_root.Goals as goal

pub returns-in_err-dirent_init : goal.returns-in_err-dirent_init
returns-in_err-dirent_init c =
    let p = err_from_is_err_and c.from_residual.result c.from_residual.ensures.1 in
    rw (p.1, p.2) (root-stop _ c.args.i _ (id-of _ _ _ c.args.i _ c.id_at-id.ensures) c.in_err-dirent_init.ensures _ _ (number-ne c.in_err-dirent_init.field-0.0))

pub name_twice-requires : goal.name_twice-requires
name_twice-requires c =
    ((went-has c.in_ok-dirent_init.ensures refl).whole, c.requires.1.1)

pub returns-in_err-name_twice : goal.returns-in_err-name_twice
returns-in_err-name_twice c =
    let p = err_from_is_err_and c.from_residual-in_err-name_twice.result c.from_residual-in_err-name_twice.ensures.1 in
    rw (p.1, p.2) (root-named _ c.args.i _ (id-of _ _ _ c.args.i _ c.id_at-id.ensures) c.in_ok-dirent_init.ensures _ (c.in_err-name_twice.ensures _ _) refl _ _ (number-ne c.in_err-name_twice.field-0.0))

pub sync_both-requires : goal.sync_both-requires
sync_both-requires c =
    let g = went-has c.in_ok-dirent_init.ensures refl in
    (record { fine = g.fine; whole = went-has (c.in_ok-name_twice.ensures [] []) refl }, (omega (arith, g.room, c.requires.1.0), c.requires.1.1))

pub returns : goal.returns
returns c =
    root-done _ c.args.i _ (id-of _ _ _ c.args.i _ c.id_at-id.ensures) c.in_ok-dirent_init.ensures _ (c.in_ok-name_twice.ensures _ _) refl refl c.sync_both.ensures
