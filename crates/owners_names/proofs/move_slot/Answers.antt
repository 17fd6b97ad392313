-- `owners_names::move_slot`: what is asked by the chains; where nothing changes the table again, else the steps, then the chains.
use Rattle.std.proofs.lemmas.Result.{err_from_is_err_and}
use Rattle.base.proofs.Tells.{number-ne}
use mathlib.Core.Path.{refl, sym, ◌∙◌}
use Rattle.steps.proofs.Ends.{rest-is, rest_has, rest-not, ended_is, ended-refused}
use Rattle.calls_move.proofs.Decisions.{plan-same, plan-goes}
use Rattle.owners_kept.proofs.Laws.{as_many, rechained}
use Rattle.owners_names.proofs.Laws.{own_same}
use Rattle.owners_names.proofs.move_slot.Goals as goal

pub returns-in_err-p : goal.returns-in_err-p
returns-in_err-p c =
    let p = err_from_is_err_and c.from_residual.result c.from_residual.ensures.1 in
    rw (p.1, p.2) (record { ended = ended-refused (number-ne c.in_err-p.field-0.0) (rest-not c.in_err-p.ensures (number-ne c.in_err-p.field-0.0)) refl; chained = c.requires.kept.chained })

pub begin-requires : goal.begin-requires
begin-requires c =
    ((rest_has c.in_ok-p.ensures refl).plan.whole.size, c.requires.slot_len.1.0)

pub returns-then-p-eq-SAME : goal.returns-then-p-eq-SAME
returns-then-p-eq-SAME c = record { ended = own_same (rest-is c.in_ok-p.ensures refl ∙ plan-same _ _ _ _ _ _ _ _ _ _ c.in_ok-p.p.way c.if-p-eq-SAME.true) (c.begin.ensures.0 ∙ sym c.requires.slot_len.1.1); chained = c.requires.kept.chained }

pub move_rows-r-requires : goal.move_rows-r-requires
move_rows-r-requires c = rest_has c.in_ok-p.ensures refl

pub chain_all-requires : goal.chain_all-requires
chain_all-requires c =
    (as_many c.args.arena.now c.move_rows-r.new.arena c.requires.kept.admitted.led.whole c.move_rows-r.auto.arena, c.requires.kept.chained.size)

pub returns : goal.returns
returns c = record { ended = ended_is (rest-is c.in_ok-p.ensures refl ∙ plan-goes _ _ _ _ _ _ _ _ _ _ c.in_ok-p.p.way c.if-p-eq-SAME.false) c.move_rows-r.ensures; chained = rechained c.requires.kept.chained c.chain_all.auto.chains c.chain_all.ensures }
