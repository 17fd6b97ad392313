-- `folders::close_hole`: two steps.
use Rattle.std.proofs.lemmas.Result.{err_from_is_err_and}
use Rattle.base.proofs.Tells.{number-ne}
use mathlib.Core.Path.{refl}
use Rattle.base.proofs.Outs.{went-is, went-has, went-stop}
use Rattle.folders.proofs.States.{stepped-next, still-ready}
use Rattle.folders.specs.Steps.{shortened}
use native.Mathlib.Omega.{arith}
use Rattle.folders.proofs.close_hole.Goals as goal

pub returns-in_err-fill_hole : goal.returns-in_err-fill_hole
returns-in_err-fill_hole c =
    let p = err_from_is_err_and c.from_residual.result c.from_residual.ensures.1 in
    rw (p.1, p.2) (went-stop _ _ (number-ne c.in_err-fill_hole.field-0.0) c.in_err-fill_hole.ensures)

pub shorten-requires : goal.shorten-requires
shorten-requires c =
    let g = went-has c.in_ok-fill_hole.ensures refl in
    (still-ready g, (omega (arith, g.room, c.requires.1.0), (c.requires.1.1.0, c.requires.1.1.1.0)))

pub returns : goal.returns
returns c =
    let g = c.in_ok-fill_hole.ensures in
    let z = refl in
    stepped-next (λ t. shortened t c.args.i) 3 5 (went-is g z) (went-has g z) c.shorten.ensures (omega arith)
