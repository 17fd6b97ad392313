-- `calls_remove::remove_on`: what is found first, and the steps.
use Rattle.std.proofs.lemmas.Result.{err_from_is_err_and}
use Rattle.base.proofs.Tells.{number-ne}
use mathlib.Core.Path.{refl}
use Rattle.steps.proofs.Ends.{rest-is, rest_has, rest-not, ended_is, ended-refused}
use Rattle.calls_remove.proofs.remove_on.Goals as goal

pub returns-in_err-p : goal.returns-in_err-p
returns-in_err-p c =
    let p = err_from_is_err_and c.from_residual.result c.from_residual.ensures.1 in
    rw (p.1, p.2) (ended-refused (number-ne c.in_err-p.field-0.0) (rest-not c.in_err-p.ensures (number-ne c.in_err-p.field-0.0)) refl)

pub remove-requires : goal.remove-requires
remove-requires c = rest_has c.in_ok-p.ensures refl

pub returns : goal.returns
returns c = ended_is (rest-is c.in_ok-p.ensures refl) c.remove.ensures
