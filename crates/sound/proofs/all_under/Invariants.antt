-- `sound::all_under`: after k turns the first k blocks are under their heads.
use mathlib.Core.Path.{◌≡◌}
use mathlib.Core.Bool.{true}
use Rattle.base.specs.Count.{all_to}
use Rattle.sound.specs.Sound.{under}
use Rattle.sound.proofs.all_under.Given as goal

abbrev pub invariant-loop-k : goal.invariant-loop-k
invariant-loop-k l = all_to (under l.arena) l.k ≡ true
