-- `mem::fresh_meta`: the flag, one map, and the superblock.
use mathlib.Core.Path.{refl}
use lib.Dec.{lit<}
use Rattle.mem.proofs.Mems.{one-stored}
use Rattle.mem.proofs.fresh_meta.Goals as goal

pub returns : goal.returns
returns c =
    let d = one-stored c.args.mem.now _ _ _ _ _ c.requires (record { magic = lit< tt; blocks = lit< tt; unused = lit< tt; groups = lit< tt }) refl refl c.put_flag.ensures c.put_map.ensures c.put_super_block.ensures in
    (d.meta, d.table, d.whole)
