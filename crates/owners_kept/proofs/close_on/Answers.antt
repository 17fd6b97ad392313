-- `owners_kept::close_on`: what is asked by the chains, then the row.
use Rattle.std.proofs.lemmas.Result.{err_from_is_err_and}
use Rattle.base.proofs.Tells.{number-ne}
use mathlib.Core.Path.{refl}
use Rattle.steps.proofs.Ends.{rest-is, rest_has, rest-not, ended_is, ended-refused}
use Rattle.owners_kept.proofs.close_on.Goals as goal

pub returns-in_err-b : goal.returns-in_err-b
returns-in_err-b c =
    let p = err_from_is_err_and c.from_residual.result c.from_residual.ensures.1 in
    rw (p.1, p.2) (record { ended = ended-refused (number-ne c.in_err-b.field-0.0) (rest-not c.in_err-b.ensures (number-ne c.in_err-b.field-0.0)) refl; chained = c.requires.chained })

pub close_kept-requires : goal.close_kept-requires
close_kept-requires c =
    (c.requires.chained, rest_has c.in_ok-b.ensures refl)

pub returns : goal.returns
returns c = record { ended = ended_is (rest-is c.in_ok-b.ensures refl) c.close_kept.ensures.ended; chained = c.close_kept.ensures.chained }
