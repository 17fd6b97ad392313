-- `calls_move::known_two`: one after the other.
use Rattle.std.proofs.lemmas.Result.{err_from_is_err_and}
use Rattle.base.proofs.Tells.{number-ne}
use mathlib.Core.Path.{refl}
use Rattle.calls_move.proofs.Asks.{known-stop, known_next}
use Rattle.calls_move.proofs.known_two.Goals as goal

pub returns-in_err-known : goal.returns-in_err-known
returns-in_err-known c =
    let p = err_from_is_err_and c.from_residual.result c.from_residual.ensures.1 in
    rw (p.1, p.2) (known-stop c.args.moved c.args.gone c.in_err-known.ensures (number-ne c.in_err-known.field-0.0))

pub returns : goal.returns
returns c =
    known_next c.args.moved c.args.gone c.in_ok-known.ensures refl c.known-2.ensures
