-- `calls_path::measure`: what is known of the climb after the turns so far.
use Rattle.mem.specs.State.{fs_at}
use Rattle.calls_path.proofs.Measures.{Climbing}
use Rattle.calls_path.proofs.measure.Given as goal

abbrev pub invariant-loop-n : goal.invariant-loop-n
invariant-loop-n l = Climbing (fs_at l.arena l.mem) l.id l.fn.rec l.marks l.at l.dir l.bytes l.n
