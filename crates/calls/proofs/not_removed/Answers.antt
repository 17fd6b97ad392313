-- `calls::not_removed`: the test that its definition makes.
use borrow.Author.Tests.{lt-ltb, le-ltb}
use Rattle.calls.proofs.Asks.{ensure-done, ensure-not}
use Rattle.calls.proofs.not_removed.Goals as goal

pub returns-then-rec-gt0 : goal.returns-then-rec-gt0
returns-then-rec-gt0 c = ensure-done 8 (lt-ltb _ _ c.if-rec-gt0.true)

pub returns : goal.returns
returns c = ensure-not 8 (le-ltb _ _ c.if-rec-gt0.false)
