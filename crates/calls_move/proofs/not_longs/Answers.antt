-- `calls_move::not_longs`: question after question.
use Rattle.std.proofs.lemmas.Result.{err_from_is_err_and}
use Rattle.base.proofs.Tells.{number-ne}
use mathlib.Core.Path.{refl}
use Rattle.sefs.specs.Ask.{not_long}
use Rattle.steps.proofs.Steps.{long}
use Rattle.calls_move.proofs.Asks.{asks-long}
use Rattle.calls_move.specs.Parts.{short_two}
use Rattle.calls_move.proofs.Asks.{pair-stop, pair-next}
use Rattle.calls_move.proofs.not_longs.Goals as goal

pub returns-in_err-not_long : goal.returns-in_err-not_long
unfolding short_two
returns-in_err-not_long c =
    let p = err_from_is_err_and c.from_residual.result c.from_residual.ensures.1 in
    rw (p.1, p.2) (pair-stop (not_long c.args.old.now) (not_long c.args.name.now) (asks-long c.args.old.now) c.in_err-not_long.ensures (number-ne c.in_err-not_long.field-0.0))

pub returns : goal.returns
unfolding short_two
returns c =
    pair-next (not_long c.args.old.now) (not_long c.args.name.now) (asks-long c.args.old.now) c.in_ok-not_long.ensures refl (long c.args.name.now _ c.not_long-2.ensures)
