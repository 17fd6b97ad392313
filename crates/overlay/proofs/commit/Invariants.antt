-- `overlay::commit`: after k turns the arena is the view of its first k blocks.
use mathlib.Core.Path.{◌≡◌}
use Rattle.overlay.specs.View.{view_to}
use Rattle.overlay.proofs.commit.Given as goal

abbrev pub invariant-loop-k : goal.invariant-loop-k
invariant-loop-k l = l.arena ≡ view_to l.initial.arena l.work l.k
