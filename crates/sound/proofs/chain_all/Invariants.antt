-- `sound::chain_all`: after k turns the first k blocks are in the chains.
use Rattle.sound.specs.Chain.{Chains, firsts, nexts}
use Rattle.sound.proofs.chain_all.Given as goal

abbrev pub invariant-loop-k : goal.invariant-loop-k
invariant-loop-k l = Chains l.arena (firsts l.chains) (nexts l.chains) l.k
