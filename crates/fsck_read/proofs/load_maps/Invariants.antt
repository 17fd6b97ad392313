-- `fsck_read::load_maps`: group after group.
use Rattle.fsck_read.specs.Loaded.{Mapped}
use Rattle.fsck_read.proofs.load_maps.Given as goal

abbrev pub invariant-loop-g : goal.invariant-loop-g
invariant-loop-g l = Mapped l.arena l.initial.mem l.mem l.g
