-- `sound::block::all_zero`: the bits joined are none where the bytes passed are zero.
use mathlib.Core.Path.{◌≡◌}
use lib.Dec.{eqb}
use lib.ListN.{get_or}
use Rattle.base.specs.Count.{all_to}
use Rattle.sound.proofs.block.all_zero.Given as goal

abbrev pub invariant-loop-byte : goal.invariant-loop-byte
invariant-loop-byte l = eqb l.joined 0 ≡ all_to (λ j. eqb (get_or l.part j 0) 0) l.byte-index
