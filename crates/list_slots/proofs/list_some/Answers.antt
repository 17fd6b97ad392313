-- `list_slots::list_some`: nothing, or the slots.
use Rattle.list_slots.proofs.Turns.{write-none}
use Rattle.list_slots.proofs.list_some.Goals as goal

pub returns-then-n-eq0 : goal.returns-then-n-eq0
returns-then-n-eq0 c =
    let s = c.args in
    write-none _ s.rec s.at _ s.n c.if-n-eq0.true
