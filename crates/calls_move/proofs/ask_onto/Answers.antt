-- `calls_move::ask_onto`: type rules, then the climb.
use Rattle.std.proofs.lemmas.Result.{err_from_is_err_and}
use Rattle.base.proofs.Tells.{number-ne}
use mathlib.Core.Path.{refl}
use Rattle.calls_move.proofs.Decisions.{onto-judged, onto-below}
use Rattle.calls_move.proofs.ask_onto.Goals as goal

pub returns-in_err-judge : goal.returns-in_err-judge
returns-in_err-judge c =
    let p = err_from_is_err_and c.from_residual.result c.from_residual.ensures.1 in
    rw (p.1, p.2) (λ old name k. onto-judged _ _ c.args.i c.args.j old name c.args.c c.args.d k c.in_err-judge.ensures (number-ne c.in_err-judge.field-0.0))

pub not_below-requires : goal.not_below-requires
not_below-requires c =
    let p = c.requires in record { led = p.led; whole = (p.whole.0, (p.whole.1.0, (p.whole.1.1.0, p.whole.1.1.1.0))) }

pub returns : goal.returns
returns c =
    λ old name k. onto-below _ _ c.args.i c.args.j old name c.args.c c.args.d k c.in_ok-judge.ensures refl c.not_below.ensures
