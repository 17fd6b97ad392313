-- `calls_metadata::size_of`: the test that its definition makes.
use borrow.Author.Tests.{eq-eqb, ne_eqb}
use Rattle.calls_metadata.proofs.size_of.Goals as goal

pub returns-then-rec-eq2 : goal.returns-then-rec-eq2
returns-then-rec-eq2 c = rw (eq-eqb _ _ c.if-rec-eq2.true) c.long.ensures.0

pub returns : goal.returns
returns c = rw (ne_eqb _ _ c.if-rec-eq2.false)
