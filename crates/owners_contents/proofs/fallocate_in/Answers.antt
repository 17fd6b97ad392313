-- `owners_contents::fallocate_in`: what is asked by the chains; then, where there is something to do, the stores and the chains.
use Rattle.std.proofs.lemmas.Result.{err_from_is_err_and}
use Rattle.base.proofs.Tells.{number-ne}
use mathlib.Core.Path.{refl}
use Rattle.steps.specs.Ends.{went}
use Rattle.steps.proofs.Ends.{ended_is, ended-refused}
use Rattle.owners_kept.proofs.Laws.{rechained, as_many}
use Rattle.owners_contents.proofs.fallocate_in.Goals as goal

pub returns-in_err-s : goal.returns-in_err-s
returns-in_err-s c =
    let p = err_from_is_err_and c.from_residual.result c.from_residual.ensures.1 in
    rw (p.1, p.2) (record { ended = ended-refused (number-ne c.in_err-s.field-0.0) (c.in_err-s.ensures.refuses (number-ne c.in_err-s.field-0.0)) refl; chained = c.requires.0.chained })

pub returns-then-s : goal.returns-then-s
returns-then-s c = record { ended = went (c.in_ok-s.ensures.idles refl c.if-s.true); chained = c.requires.0.chained }

pub fallocate_row-requires : goal.fallocate_row-requires
fallocate_row-requires c =
    (c.requires.0.admitted.whole, c.in_ok-s.ensures.supplied refl c.if-s.false)

pub chain_all-requires : goal.chain_all-requires
chain_all-requires c =
    (as_many c.args.arena.now c.fallocate_row.new.arena c.requires.0.admitted.led.whole c.fallocate_row.auto.arena, c.requires.0.chained.size)

pub returns : goal.returns
returns c = record { ended = ended_is (c.in_ok-s.ensures.goes refl c.if-s.false) c.fallocate_row.ensures; chained = rechained c.requires.0.chained c.chain_all.auto.chains c.chain_all.ensures }
