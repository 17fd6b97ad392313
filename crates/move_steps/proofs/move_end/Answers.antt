-- `move_steps::move_end`: the links in memory, then 9 blocks and 13.
use Rattle.std.proofs.lemmas.Result.{err_from_is_err_and}
use Rattle.base.proofs.Tells.{number-ne}
use mathlib.Core.Path.{refl}
use native.Mathlib.Omega.{arith}
use mathlib.Core.List.{[]}
use Rattle.base.proofs.Outs.{went-has}
use Rattle.move_steps.proofs.Steps.{end-stop, end-sync, end-done}
use Rattle.move_steps.proofs.move_end.Goals as goal

pub returns-in_err-move_links : goal.returns-in_err-move_links
returns-in_err-move_links c =
    let p = err_from_is_err_and c.from_residual.result c.from_residual.ensures.1 in
    rw (p.1, p.2) (end-stop _ c.args.i c.args.j c.args.c (c.in_err-move_links.ensures _ _) _ _ (number-ne c.in_err-move_links.field-0.0))

pub end_folders-requires : goal.end_folders-requires
end_folders-requires c =
    (record { fine = c.requires.0.fine; whole = went-has (c.in_ok-move_links.ensures [] []) refl }, (omega (arith, c.requires.1.0), (c.requires.1.1.0, (c.requires.1.1.1.0, c.requires.1.1.1.1))))

pub returns-in_err-end_folders : goal.returns-in_err-end_folders
returns-in_err-end_folders c =
    let p = err_from_is_err_and c.from_residual-in_err-end_folders.result c.from_residual-in_err-end_folders.ensures.1 in
    rw (p.1, p.2) (end-sync _ c.args.i c.args.j c.args.c (c.in_ok-move_links.ensures _ _) refl c.in_err-end_folders.ensures _ _ (number-ne c.in_err-end_folders.field-0.0))

pub release-requires : goal.release-requires
release-requires c =
    let k = went-has c.in_ok-end_folders.ensures refl in
    (record { fine = k.fine; whole = k.whole }, (omega (arith, k.room, c.requires.1.0), c.requires.1.1.1.1))

pub returns : goal.returns
returns c =
    end-done _ c.args.i c.args.j c.args.c (c.in_ok-move_links.ensures _ _) refl c.in_ok-end_folders.ensures refl c.release.ensures
