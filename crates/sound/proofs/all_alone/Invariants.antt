-- `sound::all_alone`: after k turns the first k blocks are alone, and are in the chains.
use mathlib.Core.Path.{◌≡◌}
use mathlib.Core.Bool.{true}
use Rattle.base.specs.Count.{all_to}
use Rattle.sound.specs.Chain.{Chains, firsts, nexts, alone}
use Rattle.sound.proofs.all_alone.Given as goal

abbrev pub invariant-loop-k : goal.invariant-loop-k
invariant-loop-k l =
    (all_to (alone l.arena) l.k ≡ true) × Chains l.arena (firsts l.chains) (nexts l.chains) l.k
