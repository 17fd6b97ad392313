-- `calls_fallocate::fits_collapse`: one test.
use Rattle.calls.proofs.Asks.{ensure-done, ensure-not}
use Rattle.calls_fallocate.proofs.fits_collapse.Goals as goal

pub returns-then-from-len : goal.returns-then-from-len
returns-then-from-len c = ensure-done 6 (rw c.aligned.ensures at c.if-from-len.true)

pub returns : goal.returns
returns c = ensure-not 6 (rw c.aligned.ensures at c.if-from-len.false)
