-- `calls_link::link_on`: what is asked first, and the steps.
use Rattle.std.proofs.lemmas.Result.{err_from_is_err_and}
use Rattle.base.proofs.Tells.{number-ne}
use mathlib.Core.Path.{refl}
use Rattle.steps.proofs.Ends.{rest-is, rest_has, rest-not, ended_is, ended-refused}
use Rattle.calls_link.proofs.link_on.Goals as goal

pub returns-in_err-i : goal.returns-in_err-i
returns-in_err-i c =
    let p = err_from_is_err_and c.from_residual.result c.from_residual.ensures.1 in
    rw (p.1, p.2) (ended-refused (number-ne c.in_err-i.field-0.0) (rest-not c.in_err-i.ensures (number-ne c.in_err-i.field-0.0)) refl)

pub link_rows-requires : goal.link_rows-requires
link_rows-requires c = rest_has c.in_ok-i.ensures refl

pub returns : goal.returns
returns c = ended_is (rest-is c.in_ok-i.ensures refl) c.link_rows.ensures
