-- `fsck_climb::find_parents`: id after id.
use Rattle.base.proofs.Lists.{Stored}
use Rattle.mem.specs.Mem.{table_in}
use Rattle.fsck_climb.specs.Way.{up}
use Rattle.fsck_climb.proofs.find_parents.Given as goal

abbrev pub invariant-loop-id : goal.invariant-loop-id
invariant-loop-id l = Stored 4096 (up l.arena (table_in l.mem)) l.parents l.id
