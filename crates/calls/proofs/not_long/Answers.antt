-- `calls::not_long`: the test that its definition makes.
use borrow.Author.Tests.{lt-leb, le-leb}
use Rattle.calls.proofs.Asks.{ensure-done, ensure-not}
use Rattle.calls.proofs.not_long.Goals as goal

pub returns-then-name-gt255 : goal.returns-then-name-gt255
returns-then-name-gt255 c = ensure-not 10 (lt-leb _ _ c.if-name-gt255.true)

pub returns : goal.returns
returns c = ensure-done 10 (le-leb _ _ c.if-name-gt255.false)
