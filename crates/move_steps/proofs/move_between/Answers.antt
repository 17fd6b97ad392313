-- `move_steps::move_between`: the slots, then the nodes; 3 blocks, 5 and 40.
use Rattle.std.proofs.lemmas.Result.{err_from_is_err_and}
use Rattle.base.proofs.Tells.{number-ne}
use mathlib.Core.Path.{refl}
use mathlib.Core.Path.{◌∙◌}
use Rattle.base.proofs.Outs.{went-has}
use Rattle.move_steps.proofs.Steps.{between-stop, between-remove, between_next}
use native.Mathlib.Omega.{arith}
use Rattle.move_steps.proofs.move_between.Goals as goal

pub dirent_append-requires : goal.dirent_append-requires
dirent_append-requires c =
    (c.requires.0, (omega (arith, c.requires.1.0), (c.requires.1.1.1.0, c.requires.1.1.1.1.0)))

pub returns-in_err-dirent_append : goal.returns-in_err-dirent_append
returns-in_err-dirent_append c =
    let p = err_from_is_err_and c.from_residual.result c.from_residual.ensures.1 in
    rw (p.1, p.2) (between-stop _ _ c.args.i c.args.j c.args.k c.args.gone c.in_err-dirent_append.ensures _ _ (number-ne c.in_err-dirent_append.field-0.0))

pub dirent_remove-requires : goal.dirent_remove-requires
dirent_remove-requires c =
    let k = went-has c.in_ok-dirent_append.ensures refl in
    (record { fine = k.fine; whole = k.whole }, (omega (arith, k.room, c.requires.1.0), (c.requires.1.1.0, c.requires.1.1.1.1.0)))

pub returns-in_err-dirent_remove : goal.returns-in_err-dirent_remove
returns-in_err-dirent_remove c =
    let p = err_from_is_err_and c.from_residual-in_err-dirent_remove.result c.from_residual-in_err-dirent_remove.ensures.1 in
    rw (p.1, p.2) (between-remove _ _ c.args.i c.args.j c.args.k c.args.gone c.in_ok-dirent_append.ensures refl c.in_err-dirent_remove.ensures _ _ (number-ne c.in_err-dirent_remove.field-0.0))

pub move_rest-requires : goal.move_rest-requires
move_rest-requires c =
    let k = went-has c.in_ok-dirent_append.ensures refl in
    let d = went-has c.in_ok-dirent_remove.ensures refl in
    (record { fine = d.fine; whole = d.whole }, (omega (arith, k.room, d.room, c.requires.1.0), (c.requires.1.1.0, (c.requires.1.1.1.0, (c.dirent_remove.auto.slot ∙ c.requires.1.1.1.1.0, c.requires.1.1.1.1.1)))))

pub returns : goal.returns
returns c =
    between_next _ _ c.args.i c.args.j c.args.k c.args.gone c.in_ok-dirent_append.ensures refl c.in_ok-dirent_remove.ensures _ c.u32_at-id.ensures refl c.move_rest.ensures
