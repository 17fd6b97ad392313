-- `mem::begin`: nothing of the superblock is read yet, and the table's bytes are in their place.
use Rattle.mem.proofs.Mems.{bytes-start}
use Rattle.mem.proofs.begin.Goals as goal

pub returns : goal.returns
returns c =
    bytes-start c.args.mem.now c.put_flag.new.mem c.copy.new.dst c.args.table.now c.requires.0 c.requires.1 c.put_flag.ensures c.copy.ensures
