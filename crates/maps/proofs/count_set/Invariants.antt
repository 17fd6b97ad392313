-- `maps::count_set`: after i turns the count is that of the first i bits.
use mathlib.Core.Path.{◌≡◌}
use Rattle.maps.specs.Maps.{set_bits}
use Rattle.maps.proofs.count_set.Given as goal

abbrev pub invariant-loop-i : goal.invariant-loop-i
invariant-loop-i l = l.count ≡ set_bits l.maps l.i
