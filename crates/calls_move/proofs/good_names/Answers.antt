-- `calls_move::good_names`: question after question.
use Rattle.std.proofs.lemmas.Result.{err_from_is_err_and}
use Rattle.base.proofs.Tells.{number-ne}
use mathlib.Core.Path.{refl}
use Rattle.sefs.specs.Ask.{good_name, new_name}
use Rattle.steps.proofs.Steps.{asks-good, asks-new}
use Rattle.calls.proofs.Asks.{asked-went}
use Rattle.calls_move.specs.Parts.{good_two}
use Rattle.calls_move.proofs.Asks.{pair-stop, pair-next}
use Rattle.calls_move.proofs.good_names.Goals as goal

pub returns-in_err-good_name : goal.returns-in_err-good_name
unfolding good_two
returns-in_err-good_name c =
    let p = err_from_is_err_and c.from_residual.result c.from_residual.ensures.1 in
    rw (p.1, p.2) (pair-stop (good_name c.args.old.now) (new_name c.args.name.now) (asks-good _) c.in_err-good_name.ensures (number-ne c.in_err-good_name.field-0.0))

pub returns : goal.returns
unfolding good_two
returns c =
    pair-next (good_name c.args.old.now) (new_name c.args.name.now) (asks-good _) c.in_ok-good_name.ensures refl (asked-went (new_name c.args.name.now) (asks-new _) _ c.new_name.ensures)
