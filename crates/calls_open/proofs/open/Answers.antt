-- `calls_open::open`: the answer by the reason.
use mathlib.Core.Path.{refl, ap, ◌∙◌}
use Rattle.base.proofs.Outs.{went-is, went-not}
use Rattle.base.proofs.Tells.{number-ne}
use Rattle.table.specs.declared.Table.{Table}
use Rattle.table.specs.Table.{empty_table}
use Rattle.sefs.specs.Open.{call_open}
use Rattle.calls.specs.Answers.{done_with, refused_with}
use Rattle.calls.proofs.Answers.{done-after, refused-after}
use Rattle.calls_open.proofs.open.Goals as goal

pub returns-in-Ok : goal.returns-in-Ok
returns-in-Ok c =
    done-after empty_table (call_open c.args.arena.now) _ empty_table (went-is (rw c.in-Ok.is at c.open_on.ensures) refl) (c.done.ensures ∙ ap done_with c.empty-t.ensures)

pub returns-in-Err : goal.returns-in-Err
returns-in-Err c =
    let e = c.in-Err.reason in
    refused-after empty_table (call_open c.args.arena.now) _ e (went-not (rw c.in-Err.is at c.open_on.ensures) (number-ne e)) (c.refused.ensures ∙ ap (λ (t : Table). refused_with t e) c.empty-t.ensures)
