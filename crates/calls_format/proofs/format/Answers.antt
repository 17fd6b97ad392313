-- `calls_format::format`: the arena, and the empty table.
use Rattle.calls_format.proofs.Formats.{call-stuck, call-went}
use Rattle.calls_format.proofs.format.Goals as goal

pub returns-in-Ok : goal.returns-in-Ok
returns-in-Ok c = call-went c.empty-t.ensures (rw c.in-Ok.is at c.format_on.ensures) c.done.ensures

pub returns-in-Err : goal.returns-in-Err
returns-in-Err c = call-stuck c.empty-t.ensures c.in-Err.reason (rw c.in-Err.is at c.format_on.ensures) c.refused.ensures
