-- `verdicts::start_of`: the test that its definition makes.
use Rattle.verdicts.proofs.start_of.Goals as goal

pub returns-then-dots-next : goal.returns-then-dots-next
returns-then-dots-next c = rw c.if-dots-next.true

pub returns : goal.returns
returns c = rw c.if-dots-next.false
