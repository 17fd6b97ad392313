-- `calls_walk::remember`: two places of the marks.
use native.Mathlib.Omega.{arith}
use lib.ListN.{length-set}
use Rattle.calls_walk.proofs.remember.Goals as goal

pub bounds-marks-k-2 : goal.bounds-marks-k-2
bounds-marks-k-2 c = simp (length-set) (omega (arith, c.requires.0, c.requires.1))
