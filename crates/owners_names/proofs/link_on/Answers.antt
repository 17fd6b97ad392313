-- `owners_names::link_on`: what is asked by the chains, then the steps, then the chains.
use Rattle.std.proofs.lemmas.Result.{err_from_is_err_and}
use Rattle.base.proofs.Tells.{number-ne}
use mathlib.Core.Path.{refl}
use Rattle.steps.proofs.Ends.{rest-is, rest_has, rest-not, ended_is, ended-refused}
use Rattle.owners_kept.proofs.Laws.{rechained}
use Rattle.owners_names.proofs.link_on.Goals as goal

pub returns-in_err-i : goal.returns-in_err-i
returns-in_err-i c =
    let p = err_from_is_err_and c.from_residual.result c.from_residual.ensures.1 in
    rw (p.1, p.2) (record { ended = ended-refused (number-ne c.in_err-i.field-0.0) (rest-not c.in_err-i.ensures (number-ne c.in_err-i.field-0.0)) refl; chained = c.requires.chained })

pub link_rows-r-requires : goal.link_rows-r-requires
link_rows-r-requires c = rest_has c.in_ok-i.ensures refl

pub returns : goal.returns
returns c = record { ended = ended_is (rest-is c.in_ok-i.ensures refl) c.link_rows-r.ensures; chained = rechained c.requires.chained c.chain_all.auto.chains c.chain_all.ensures }
