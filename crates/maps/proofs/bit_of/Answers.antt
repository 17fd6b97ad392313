-- `maps::bit_of`: what a shift and a remainder are.
use mathlib.Core.Path.{refl}
use Rattle.maps.specs.Maps.{bit_of}
use Rattle.maps.proofs.bit_of.Goals as goal

pub returns : goal.returns
unfolding bit_of
returns c = refl
