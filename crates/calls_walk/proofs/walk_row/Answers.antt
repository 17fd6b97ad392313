-- `calls_walk::walk_row`: superblock and maps are read, and then the walk begins at the row's node.
use Rattle.calls_walk.proofs.Runs.{readmitted, from-memory}
use mathlib.Core.Path.{subst}
use lib.ListN.{length}
use Rattle.walk.specs.Walk.{Spot, Walked}
use Rattle.calls_walk.specs.States.{Walks}
use Rattle.calls_walk.proofs.walk_row.Goals as goal

pub walk_from-requires : goal.walk_from-requires
walk_from-requires c = readmitted c.requires.admitted c.load_meta.ensures.1.0 c.load_meta.ensures.1.1

pub returns : goal.returns
returns c =
    let s = c.args in
    let l = c.load_meta.ensures in record { walks = subst (λ (o : Walked Spot). Walks o s.links.now c.walk_from.new.links c.walk_from.result) (from-memory s.arena.now _ s.mem.now s.i _ _ s.path.now (length s.links.now) l.1.0 l.0 c.id_at-id.ensures c.rec_at-rec.ensures) c.walk_from.ensures; mem_unchanged = (l.1.0, l.1.1) }
