-- `calls_close::close_on`: what is asked first, and the steps.
use Rattle.std.proofs.lemmas.Result.{err_from_is_err_and}
use Rattle.base.proofs.Tells.{number-ne}
use mathlib.Core.Path.{refl}
use Rattle.steps.proofs.Ends.{rest-is, rest_has, rest-not, ended_is, ended-refused}
use Rattle.calls_close.proofs.close_on.Goals as goal

pub returns-in_err-b : goal.returns-in_err-b
returns-in_err-b c =
    let p = err_from_is_err_and c.from_residual.result c.from_residual.ensures.1 in
    rw (p.1, p.2) (ended-refused (number-ne c.in_err-b.field-0.0) (rest-not c.in_err-b.ensures (number-ne c.in_err-b.field-0.0)) refl)

pub close_row-requires : goal.close_row-requires
close_row-requires c = rest_has c.in_ok-b.ensures refl

pub returns : goal.returns
returns c = ended_is (rest-is c.in_ok-b.ensures refl) c.close_row.ensures
