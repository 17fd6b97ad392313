-- `calls_path::write_path`: the path so far, and the lent slot has its length. The measure is the folders whose names are still to be written.
use mathlib.Core.Path.{◌≡◌}
use lib.ListN.{length}
use Rattle.mem.specs.State.{fs_at}
use Rattle.calls_path.proofs.Spans.{Sofar}
use Rattle.calls_path.proofs.write_path.Given as goal

abbrev pub invariant-loop-below : goal.invariant-loop-below
invariant-loop-below l = (length l.slot ≡ 264) × Sofar (fs_at l.arena l.mem) l.x l.rec l.marks l.folders l.initial.out l.below l.at l.out

abbrev pub decreases-loop-below : goal.decreases-loop-below
decreases-loop-below l = l.below
