-- `owners_names::create_on`: what is asked by the chains, then the steps, then the chains.
use Rattle.std.proofs.lemmas.Result.{err_from_is_err_and}
use Rattle.base.proofs.Tells.{number-ne}
use mathlib.Core.Path.{refl}
use Rattle.steps.proofs.Ends.{rest-is, rest_has, rest-not}
use Rattle.calls_create.proofs.Held.{held-is, held-refused}
use Rattle.owners_kept.proofs.Laws.{as_many, rechained}
use Rattle.owners_names.proofs.create_on.Goals as goal

pub returns-in_err-row : goal.returns-in_err-row
returns-in_err-row c =
    let p = err_from_is_err_and c.from_residual.result c.from_residual.ensures.1 in
    rw (p.1, p.2) (record { ended_held = held-refused (number-ne c.in_err-row.field-0.0) (rest-not c.in_err-row.ensures (number-ne c.in_err-row.field-0.0)) refl; chained = c.requires.chained })

pub create_rows-r-requires : goal.create_rows-r-requires
create_rows-r-requires c = rest_has c.in_ok-row.ensures refl

pub chain_all-requires : goal.chain_all-requires
chain_all-requires c =
    (as_many c.args.arena.now c.create_rows-r.new.arena c.requires.admitted.led.whole c.create_rows-r.auto.arena, c.requires.chained.size)

pub returns : goal.returns
returns c = record { ended_held = held-is (rest-is c.in_ok-row.ensures refl) c.create_rows-r.ensures; chained = rechained c.requires.chained c.chain_all.auto.chains c.chain_all.ensures }
