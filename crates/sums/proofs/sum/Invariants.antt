-- `sums::sum`: after i turns it is the sum over the first i bytes, below the modulus.
use mathlib.Core.Path.{◌≡◌}
use Prim.Native.Nat.{◌<◌}
use Rattle.sums.specs.Sum.{sum_of}
use Rattle.sums.proofs.sum.Given as goal

abbrev pub invariant-loop-b : goal.invariant-loop-b
invariant-loop-b l = (l.h < 4294967291) × (l.h ≡ sum_of l.bytes l.b-index)
