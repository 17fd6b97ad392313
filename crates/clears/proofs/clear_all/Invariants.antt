-- `clears::clear_all`: after k turns the first k blocks are free.
use Rattle.clears.proofs.Clears.{FreedTo}
use Rattle.clears.proofs.clear_all.Given as goal

abbrev pub invariant-loop-k : goal.invariant-loop-k
invariant-loop-k l = FreedTo l.arena l.initial.work l.work l.k
