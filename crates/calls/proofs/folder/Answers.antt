-- `calls::folder`: the test that its definition makes.
use borrow.Author.Tests.{eq-eqb, ne_eqb}
use Rattle.calls.proofs.Asks.{ensure-done, ensure-not}
use Rattle.calls.proofs.folder.Goals as goal

pub returns-then-rec-eq2 : goal.returns-then-rec-eq2
returns-then-rec-eq2 c = ensure-done 7 (eq-eqb _ _ c.if-rec-eq2.true)

pub returns : goal.returns
returns c = ensure-not 7 (ne_eqb _ _ c.if-rec-eq2.false)
