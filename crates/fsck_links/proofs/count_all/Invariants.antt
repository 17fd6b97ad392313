-- `fsck_links::count_all`: id after id.
use Rattle.mem.specs.Mem.{table_in}
use Rattle.fsck_links.specs.Counts.{Holds, named_to}
use Rattle.fsck_links.proofs.count_all.Given as goal

abbrev pub invariant-loop-id : goal.invariant-loop-id
invariant-loop-id l = Holds l.counts (named_to l.arena (table_in l.mem) l.id)
