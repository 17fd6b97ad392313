-- `calls_close::close_row`: whether it was the row's last hold.
use Rattle.steps.specs.Ends.{went}
use Rattle.steps.proofs.Ends.{ended_is}
use Rattle.calls_close.proofs.Closes.{steps-last, steps-kept}
use Rattle.mem.specs.State.{fs_at}
use Rattle.calls_close.proofs.close_row.Goals as goal

pub returns-then-last : goal.returns-then-last
returns-then-last c =
    let s = c.args in
    ended_is (steps-last (fs_at s.arena.now s.mem.now) s.last s.i c.if-last.true) c.drop_row.ensures

pub returns : goal.returns
returns c =
    let s = c.args in
    went (steps-kept (fs_at s.arena.now s.mem.now) s.last s.i c.if-last.false)
