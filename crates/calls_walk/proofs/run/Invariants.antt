-- `calls_walk::run`: what the turns so far keep. The measure is two for each link left and one for each rest.
use Rattle.calls_walk.proofs.Runs.{Running}
use Rattle.mem.specs.State.{fs_at}
use Rattle.calls_walk.specs.States.{outcome, weight}
use Rattle.calls_walk.proofs.run.Given as goal

abbrev pub invariant-loop-at : goal.invariant-loop-at
invariant-loop-at l = Running (outcome (fs_at l.arena l.mem) l.path l.initial.links l.initial.marks l.initial.at) (fs_at l.arena l.mem) l.path l.initial.links l.initial.marks l.links l.marks l.at

abbrev pub decreases-loop-at : goal.decreases-loop-at
decreases-loop-at l = weight l.at
