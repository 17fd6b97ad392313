-- `walk_parts::entry`: over where the text was refused.
use Rattle.walk_parts.proofs.Entries.{entered, not-entered}
use Rattle.walk_parts.proofs.entry.Goals as goal

pub returns-in-Ok : goal.returns-in-Ok
returns-in-Ok c = λ o g. entered (rw c.in-Ok.is at g) _ _ _ _ _

pub returns-in-Err : goal.returns-in-Err
returns-in-Err c = λ o g. not-entered c.in-Err.reason (rw c.in-Err.is at g) _ _ _ _ _ _ _
