-- `maps::lowest_set`: no bit that was passed is set, in each of the three loops; the search is left at the first that is, or past the last group.
use Prim.Native.Nat.{◌+◌, ◌*◌}
use Rattle.maps.proofs.Bits.{Clear}
use Rattle.maps.proofs.lowest_set.Given as goal

abbrev pub invariant-loop-k : goal.invariant-loop-k
invariant-loop-k l = Clear l.maps (1024 * l.group + 8 * l.byte + l.k)

abbrev pub invariant-loop-byte : goal.invariant-loop-byte
invariant-loop-byte l = Clear l.maps (1024 * l.group + 8 * l.byte)

abbrev pub invariant-loop-group : goal.invariant-loop-group
invariant-loop-group l = Clear l.maps (1024 * l.group)
