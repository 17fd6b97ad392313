-- `calls_create::create_moves`: the node, then what comes after it is made.
use Rattle.std.proofs.lemmas.Result.{err_from_is_err_and}
use Rattle.base.proofs.Tells.{number-pos, number-ne}
use mathlib.Core.Path.{refl}
use native.Mathlib.Omega.{arith}
use Rattle.base.specs.Out.{ill}
use Rattle.base.proofs.Outs.{went-has, went-not}
use Rattle.folders.proofs.States.{still-ready}
use Rattle.calls_create.proofs.Creates.{moves-stop, moves-done}
use Rattle.calls_create.proofs.create_moves.Goals as goal

pub returns-in_err-row : goal.returns-in_err-row
returns-in_err-row c =
    let p = err_from_is_err_and c.from_residual.result c.from_residual.ensures.1 in
    rw (p.1, p.2) (moves-stop _ _ c.args.i c.args.new.kind c.args.new.mode c.args.new.time c.args.new.file c.in_err-row.ensures _ _ (number-ne c.in_err-row.field-0.0))

pub create_rest-requires : goal.create_rest-requires
create_rest-requires c =
    let g = went-has c.in_ok-row.ensures refl in
    (still-ready g.0, (omega (arith, g.0.room, c.requires.1.0), (c.requires.1.1.0, (g.1, c.requires.1.1.1))))

pub returns-in_err-create_rest : goal.returns-in_err-create_rest
returns-in_err-create_rest c =
    let p = err_from_is_err_and c.from_residual-in_err-create_rest.result c.from_residual-in_err-create_rest.ensures.1 in
    let e = c.in_err-create_rest.field-0.0 in
    rw (p.1, p.2) (ill (number-pos e) (went-not (moves-done _ _ c.args.i c.args.new.kind c.args.new.mode c.args.new.time c.args.new.file c.in_ok-row.ensures refl c.in_err-create_rest.ensures) (number-ne e)))

pub returns : goal.returns
returns c =
    moves-done _ _ c.args.i c.args.new.kind c.args.new.mode c.args.new.time c.args.new.file c.in_ok-row.ensures refl c.in_ok-create_rest.ensures
