-- `removals::ask_name`: question after question.
use Rattle.std.proofs.lemmas.Result.{err_from_is_err_and}
use Rattle.base.proofs.Tells.{number-ne}
use mathlib.Core.Path.{refl}
use mathlib.Core.Path.{◌∙◌}
use Rattle.removals.proofs.Parts.{name-stop, name-next}
use Rattle.removals.proofs.ask_name.Goals as goal

pub returns-in_err-not_special : goal.returns-in_err-not_special
returns-in_err-not_special c =
    let p = err_from_is_err_and c.from_residual.result c.from_residual.ensures.1 in
    rw (p.1, p.2) (name-stop _ _ c.in_err-not_special.ensures (number-ne c.in_err-not_special.field-0.0))

pub returns : goal.returns
returns c =
    c.not_long.ensures ∙ name-next _ _ c.in_ok-not_special.ensures refl
