-- `calls_move::move_with`: what is decided first, and the steps.
use mathlib.Core.Path.{refl, ◌∙◌}
use Rattle.std.specs.Prelude.{Ok, Err}
use Rattle.std.proofs.lemmas.Result.{err_from_is_err_and}
use Rattle.base.proofs.Tells.{number-pos, number-ne}
use Rattle.steps.proofs.Ends.{rest-is, rest_has, rest-not}
use Rattle.calls_move.specs.Courses.{rests, denied}
use Rattle.calls_move.proofs.Courses.{moved-ended}
use Rattle.calls_move.proofs.Decisions.{plan-same, plan-goes}
use Rattle.calls_move.proofs.move_with.Goals as goal

pub returns-in_err-p : goal.returns-in_err-p
returns-in_err-p c =
    let e = c.in_err-p.field-0.0 in
    let p = err_from_is_err_and c.from_residual.result c.from_residual.ensures.1 in
    rw (p.1, p.2) (denied (number-pos e) (rest-not c.in_err-p.ensures (number-ne e)) refl)

pub returns-then-p-eq-SAME : goal.returns-then-p-eq-SAME
returns-then-p-eq-SAME c =
    rests (rest-is c.in_ok-p.ensures refl ∙ plan-same _ _ _ _ _ _ _ _ _ _ c.in_ok-p.p.way c.if-p-eq-SAME.true) refl

pub move_rows-requires : goal.move_rows-requires
move_rows-requires c = rest_has c.in_ok-p.ensures refl

pub returns-in_err-move_rows : goal.returns-in_err-move_rows
returns-in_err-move_rows c =
    let p = err_from_is_err_and c.from_residual-in_err-move_rows.result c.from_residual-in_err-move_rows.ensures.1 in
    rw (p.1, p.2) (moved-ended (Err c.in_err-move_rows.field-0.0) (rest-is c.in_ok-p.ensures refl ∙ plan-goes _ _ _ _ _ _ _ _ _ _ c.in_ok-p.p.way c.if-p-eq-SAME.false) c.in_err-move_rows.ensures refl)

pub returns : goal.returns
returns c =
    moved-ended (Ok tt) (rest-is c.in_ok-p.ensures refl ∙ plan-goes _ _ _ _ _ _ _ _ _ _ c.in_ok-p.p.way c.if-p-eq-SAME.false) c.in_ok-move_rows.ensures refl
