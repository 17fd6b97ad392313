-- `calls_move::not_specials`: question after question.
use Rattle.std.proofs.lemmas.Result.{err_from_is_err_and}
use Rattle.base.proofs.Tells.{number-ne}
use mathlib.Core.Path.{refl}
use Rattle.sefs.specs.Ask.{not_special}
use Rattle.steps.proofs.Steps.{asks-special}
use Rattle.calls.proofs.Asks.{asked-went}
use Rattle.calls_move.specs.Parts.{plain_two}
use Rattle.calls_move.proofs.Asks.{pair-stop, pair-next}
use Rattle.calls_move.proofs.not_specials.Goals as goal

pub returns-in_err-not_special : goal.returns-in_err-not_special
unfolding plain_two
returns-in_err-not_special c =
    let p = err_from_is_err_and c.from_residual.result c.from_residual.ensures.1 in
    rw (p.1, p.2) (pair-stop (not_special c.args.old.now) (not_special c.args.name.now) (asks-special _) c.in_err-not_special.ensures (number-ne c.in_err-not_special.field-0.0))

pub returns : goal.returns
unfolding plain_two
returns c =
    pair-next (not_special c.args.old.now) (not_special c.args.name.now) (asks-special _) c.in_ok-not_special.ensures refl (asked-went (not_special c.args.name.now) (asks-special _) _ c.not_special-2.ensures)
