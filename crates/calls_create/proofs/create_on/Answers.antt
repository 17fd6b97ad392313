-- `calls_create::create_on`: what is asked first, and the steps.
use Rattle.std.proofs.lemmas.Result.{err_from_is_err_and}
use Rattle.base.proofs.Tells.{number-ne}
use mathlib.Core.Path.{refl}
use Rattle.steps.proofs.Ends.{rest-is, rest_has, rest-not}
use Rattle.calls_create.proofs.Held.{held-is, held-refused}
use Rattle.calls_create.proofs.create_on.Goals as goal

pub returns-in_err-row : goal.returns-in_err-row
returns-in_err-row c =
    let p = err_from_is_err_and c.from_residual.result c.from_residual.ensures.1 in
    rw (p.1, p.2) (held-refused (number-ne c.in_err-row.field-0.0) (rest-not c.in_err-row.ensures (number-ne c.in_err-row.field-0.0)) refl)

pub create_rows-requires : goal.create_rows-requires
create_rows-requires c = rest_has c.in_ok-row.ensures refl

pub returns : goal.returns
returns c = held-is (rest-is c.in_ok-row.ensures refl) c.create_rows.ensures
