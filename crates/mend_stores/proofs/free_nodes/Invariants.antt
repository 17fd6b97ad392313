-- `mend_stores::free_nodes`: after id turns, those that go of the first id nodes are gone.
use Rattle.mend_stores.specs.Stores.{FreedTo}
use Rattle.mend_stores.proofs.free_nodes.Given as goal

abbrev pub invariant-loop-id : goal.invariant-loop-id
invariant-loop-id l = FreedTo l.initial.arena l.arena l.mem l.id
