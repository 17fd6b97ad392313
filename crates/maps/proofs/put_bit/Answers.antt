-- `maps::put_bit`: the byte with another bit.
use mathlib.Core.Path.{ap}
use Prim.Native.Nat.{ℕ, ◌/◌}
use lib.ListN.{set}
use Rattle.maps.specs.Maps.{with_bit}
use Rattle.maps.proofs.put_bit.Goals as goal

pub returns : goal.returns
unfolding with_bit
returns c = ap (λ (x : ℕ). set c.args.maps.now (c.args.i / 8) x) c.put_bit_of.ensures
