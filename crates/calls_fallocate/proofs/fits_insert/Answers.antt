-- `calls_fallocate::fits_insert`: one test, and then the grown size.
use Rattle.calls_fallocate.proofs.fits_insert.Goals as goal

pub returns-then-from-size : goal.returns-then-from-size
returns-then-from-size c = rw (rw c.aligned.ensures at c.if-from-size.true) c.not_too_big.ensures

pub returns : goal.returns
returns c = rw (rw c.aligned.ensures at c.if-from-size.false)
