-- `calls_sync::sync_on`: the first questions, then the stores.
use Rattle.std.proofs.lemmas.Result.{err_from_is_err_and}
use Rattle.base.proofs.Tells.{number-ne}
use mathlib.Core.Path.{refl}
use Rattle.steps.proofs.Ends.{rest-is, rest_has, rest-not, ended_is, ended-refused}
use Rattle.calls_sync.proofs.sync_on.Goals as goal

pub returns-in_err-sync_asked : goal.returns-in_err-sync_asked
returns-in_err-sync_asked c =
    let p = err_from_is_err_and c.from_residual.result c.from_residual.ensures.1 in
    rw (p.1, p.2) (ended-refused (number-ne c.in_err-sync_asked.field-0.0) (rest-not c.in_err-sync_asked.ensures (number-ne c.in_err-sync_asked.field-0.0)) refl)

pub sync_in-requires : goal.sync_in-requires
sync_in-requires c = rest_has c.in_ok-sync_asked.ensures refl

pub returns : goal.returns
returns c = ended_is (rest-is c.in_ok-sync_asked.ensures refl) c.sync_in.ensures
