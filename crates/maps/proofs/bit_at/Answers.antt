-- `maps::bit_at`: the bit of the byte.
use Rattle.maps.specs.Maps.{bit_at}
use Rattle.maps.proofs.bit_at.Goals as goal

pub returns : goal.returns
unfolding bit_at
returns c = c.bit_of.ensures
