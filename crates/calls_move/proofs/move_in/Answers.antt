-- `calls_move::move_in`: what the steps left is written where they were done.
use Rattle.std.proofs.lemmas.Result.{err_from_is_err_and}
use Rattle.base.proofs.Tells.{number-ne}
use mathlib.Core.Path.{refl}
use Rattle.base.proofs.Outs.{went-has}
use Rattle.structs.specs.Layout.{entry_of}
use Rattle.calls_move.specs.Parts.{plan_steps}
use Rattle.steps.proofs.Ends.{fs-begun, ended-not, ended-done}
use native.Mathlib.Omega.{arith}
use Rattle.calls_move.proofs.move_in.Goals as goal

pub move_planned-requires : goal.move_planned-requires
move_planned-requires c =
    let p = c.requires in record { ready = (record { fine = p.0.fine; whole = p.1.plan.whole }, omega (arith, p.0.room)); agreed = p.1 }

pub returns-in_err-move_planned : goal.returns-in_err-move_planned
returns-in_err-move_planned c =
    let p = err_from_is_err_and c.from_residual.result c.from_residual.ensures.1 in
    rw (p.1, p.2) (ended-not (λ x. plan_steps x c.args.p.way c.args.p.row c.args.p.other c.args.old.now c.args.name.now (entry_of c.args.slot.now) c.args.p.place c.args.p.gone c.args.p.moved) _ _ _ (fs-begun _ _ _ 71 c.requires.0) c.in_err-move_planned.ensures (number-ne c.in_err-move_planned.field-0.0) refl)

pub commit-requires : goal.commit-requires
commit-requires c =
    (went-has c.in_ok-move_planned.ensures refl).fine

pub returns : goal.returns
returns c =
    ended-done (λ x. plan_steps x c.args.p.way c.args.p.row c.args.p.other c.args.old.now c.args.name.now (entry_of c.args.slot.now) c.args.p.place c.args.p.gone c.args.p.moved) _ _ _ _ (fs-begun _ _ _ 71 c.requires.0) c.in_ok-move_planned.ensures refl c.commit.ensures
