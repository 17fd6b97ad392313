-- `move_steps::move_onto`: the end of c's opening, the steps; 13 blocks and 48.
use Rattle.std.proofs.lemmas.Result.{err_from_is_err_and}
use Rattle.base.proofs.Tells.{number-ne}
use mathlib.Core.Path.{refl}
use Rattle.base.proofs.Outs.{went-has}
use Rattle.move_steps.proofs.Steps.{over-stop, over-next}
use native.Mathlib.Omega.{arith}
use Rattle.move_steps.proofs.move_onto.Goals as goal

pub release-requires : goal.release-requires
release-requires c =
    (c.requires.0, (omega (arith, c.requires.1.0), c.requires.1.1.1.1.0))

pub returns-in_err-release : goal.returns-in_err-release
returns-in_err-release c =
    let p = err_from_is_err_and c.from_residual.result c.from_residual.ensures.1 in
    rw (p.1, p.2) (over-stop _ c.args.i c.args.j c.args.old.now c.args.name.now c.args.c c.args.d c.args.k c.in_err-release.ensures _ _ (number-ne c.in_err-release.field-0.0))

pub move_steps-requires : goal.move_steps-requires
move_steps-requires c =
    let k = went-has c.in_ok-release.ensures refl in
    (record { fine = k.fine; whole = k.whole }, (omega (arith, k.room, c.requires.1.0), (c.requires.1.1.0, (c.requires.1.1.1.0, (c.requires.1.1.1.1.1.1.0, (c.requires.1.1.1.1.1.1.1, c.requires.1.1.1.1.1.0))))))

pub returns : goal.returns
returns c =
    over-next _ c.args.i c.args.j c.args.old.now c.args.name.now c.args.c c.args.d c.args.k c.in_ok-release.ensures refl c.move_steps.ensures
