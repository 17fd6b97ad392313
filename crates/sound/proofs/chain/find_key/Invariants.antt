-- `sound::chain::find_key`: no block from c on has the key, and c leads along the bucket.
use Rattle.arena.specs.Fields.{file}
use Rattle.sound.proofs.Chains.{Walk}
use Rattle.sound.proofs.chain.find_key.Given as goal

abbrev pub invariant-loop-c : goal.invariant-loop-c
invariant-loop-c l = Walk l.arena l.head (file l.which l.name) l.number l.k l.c

abbrev pub decreases-loop-c : goal.decreases-loop-c
decreases-loop-c l = l.c
