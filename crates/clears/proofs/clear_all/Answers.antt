-- `clears::clear_all`: after k turns the first k blocks are free.
use native.Mathlib.Omega.{arith}
use Rattle.clears.proofs.Clears.{freed-none, freed-more, freed-all}
use Rattle.clears.proofs.clear_all.Goals as goal

pub loop-k-init : goal.loop-k-init
loop-k-init c = freed-none _ _ c.requires

pub loop-k-preserved : goal.loop-k-preserved
loop-k-preserved c = freed-more _ _ c.requires c.loop-k.work _ c.loop-k.k (omega arith) c.loop-k.invariant c.free.ensures

pub returns : goal.returns
returns c = freed-all _ _ c.requires _ c.loop-k.k (omega arith) c.loop-k.invariant
