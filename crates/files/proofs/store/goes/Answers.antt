-- `files::store::goes`: the two cases.
use Rattle.files.proofs.store.goes.Goals as goal

pub returns-then-all : goal.returns-then-all
returns-then-all c = rw c.if-all.true c.is_of.ensures

pub returns : goal.returns
returns c = rw c.if-all.false c.is_past.ensures
