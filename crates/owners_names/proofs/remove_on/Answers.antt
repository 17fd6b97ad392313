-- `owners_names::remove_on`: what is asked by the chains, then the steps, then the chains.
use Rattle.std.proofs.lemmas.Result.{err_from_is_err_and}
use Rattle.base.proofs.Tells.{number-ne}
use mathlib.Core.Path.{refl}
use Rattle.steps.proofs.Ends.{rest-is, rest_has, rest-not, ended_is, ended-refused}
use Rattle.owners_kept.proofs.Laws.{as_many, rechained}
use Rattle.owners_names.proofs.remove_on.Goals as goal

pub returns-in_err-p : goal.returns-in_err-p
returns-in_err-p c =
    let p = err_from_is_err_and c.from_residual.result c.from_residual.ensures.1 in
    rw (p.1, p.2) (record { ended = ended-refused (number-ne c.in_err-p.field-0.0) (rest-not c.in_err-p.ensures (number-ne c.in_err-p.field-0.0)) refl; chained = c.requires.chained })

pub remove-r-requires : goal.remove-r-requires
remove-r-requires c = rest_has c.in_ok-p.ensures refl

pub chain_all-requires : goal.chain_all-requires
chain_all-requires c =
    (as_many c.args.arena.now c.remove-r.new.arena c.requires.admitted.led.whole c.remove-r.auto.arena, c.requires.chained.size)

pub returns : goal.returns
returns c = record { ended = ended_is (rest-is c.in_ok-p.ensures refl) c.remove-r.ensures; chained = rechained c.requires.chained c.chain_all.auto.chains c.chain_all.ensures }
