-- `owners_contents::write_in`: what is asked by the chains, then the stores, then the chains.
use Rattle.std.proofs.lemmas.Result.{err_from_is_err_and}
use Rattle.base.proofs.Tells.{number-ne}
use mathlib.Core.Path.{refl}
use Rattle.steps.proofs.Ends.{rest-is, rest_has, rest-not, ended_is, ended-refused}
use Rattle.owners_kept.proofs.Laws.{rechained, as_many}
use Rattle.owners_contents.proofs.write_in.Goals as goal

pub returns-in_err-s : goal.returns-in_err-s
returns-in_err-s c =
    let p = err_from_is_err_and c.from_residual.result c.from_residual.ensures.1 in
    rw (p.1, p.2) (record { ended = ended-refused (number-ne c.in_err-s.field-0.0) (rest-not (c.in_err-s.ensures c.args.src.now refl) (number-ne c.in_err-s.field-0.0)) refl; chained = c.requires.0.chained })

pub write_row-requires : goal.write_row-requires
write_row-requires c = (c.requires.0.admitted.whole, rest_has (c.in_ok-s.ensures c.args.src.now refl) refl)

pub chain_all-requires : goal.chain_all-requires
chain_all-requires c =
    (as_many c.args.arena.now c.write_row.new.arena c.requires.0.admitted.led.whole c.write_row.auto.arena, c.requires.0.chained.size)

pub returns : goal.returns
returns c = record { ended = ended_is (rest-is (c.in_ok-s.ensures c.args.src.now refl) refl) c.write_row.ensures; chained = rechained c.requires.0.chained c.chain_all.auto.chains c.chain_all.ensures }
