-- `calls_move::plan_work`: the questions, then what the names lead to.
use Rattle.std.proofs.lemmas.Result.{err_from_is_err_and}
use Rattle.base.proofs.Tells.{number-ne}
use mathlib.Core.Path.{refl, ◌∙◌}
use Rattle.base.proofs.Outs.{went-has}
use Rattle.steps.proofs.Ends.{rest-as}
use Rattle.calls_move.proofs.Decisions.{work-stop, work-next}
use Rattle.calls_move.proofs.plan_work.Goals as goal

pub returns-in_err-move_ask : goal.returns-in_err-move_ask
returns-in_err-move_ask c =
    let p = err_from_is_err_and c.from_residual.result c.from_residual.ensures.1 in
    rw (p.1, p.2) (work-stop c.args.arena.now c.args.mem.now c.args.i c.args.j c.args.old.now c.args.name.now _ _
    c.rec_at.ensures c.rec_at-2.ensures c.in_err-move_ask.ensures (number-ne c.in_err-move_ask.field-0.0))

pub plan_found-requires : goal.plan_found-requires
plan_found-requires c =
    let p = c.requires in record { led = p.led; whole = (p.whole.0, (p.whole.1.0, (p.whole.1.1.0, (went-has c.in_ok-move_ask.ensures refl, p.whole.1.1.1)))) }

pub returns : goal.returns
returns c =
    rest-as refl (λ p. (p.0, (p.1, c.plan_found.auto.slot ∙ c.requires.whole.1.1.1)))
    (work-next c.args.arena.now c.args.mem.now c.args.i c.args.j c.args.old.now c.args.name.now _ _
    c.rec_at.ensures
    c.rec_at-2.ensures c.in_ok-move_ask.ensures
    refl c.plan_found.ensures)
