-- `range_stores::move_part`: what was read is what is written.
use lib.ListN.{length}
use Rattle.arena.specs.Fields.{file}
use Rattle.range_stores.proofs.Runs.{read-moves}
use Rattle.range_stores.proofs.move_part.Goals as goal

pub returns : goal.returns
returns c =
    let a = c.args in
    (read-moves a.arena.now (file 1 a.name.now) a.source.now a.first a.p a.q a.off (length a.room.now) c.read_places.new.out _ c.read_places.ensures c.put_bytes.ensures.0, c.put_bytes.ensures.1.0)
