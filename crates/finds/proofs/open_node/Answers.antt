-- `finds::open_node`: superblock and maps, then the node.
use Rattle.mem.specs.Mem.{table_in}
use Rattle.finds.proofs.Parts.{hold-went}
use Rattle.finds.proofs.open_node.Goals as goal

pub returns : goal.returns
returns c w =
    let s = c.args in
    hold-went s.arena.now c.load_meta.new.mem c.get_node.new.mem (table_in s.mem.now) w s.id _ _ c.load_meta.ensures.1.0 c.load_meta.ensures.0 c.get_node.ensures
