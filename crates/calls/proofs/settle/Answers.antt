-- `calls::settle`: by what the steps answered.
use mathlib.Core.Path.{◌∙◌, ap}
use Rattle.mem.specs.Mem.{table_in}
use Rattle.calls.specs.Answers.{done_with}
use Rattle.calls.proofs.Answers.{after-done, after-refused}
use Rattle.calls.proofs.settle.Goals as goal

pub returns-in-Ok : goal.returns-in-Ok
returns-in-Ok g c = rw c.in-Ok.is (c.done.ensures ∙ ap done_with c.table_at.ensures ∙ after-done c.args.t (table_in c.args.mem.now))

pub returns-in-Err : goal.returns-in-Err
returns-in-Err g c = rw c.in-Err.is (c.refused.ensures ∙ after-refused c.args.t (table_in c.args.mem.now) c.in-Err.reason)
