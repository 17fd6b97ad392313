-- `mem::put_empty`: the flag says that nothing was read, and the empty table's bytes are laid over its place.
use Rattle.table_bytes.proofs.Empty.{empty-fits}
use Rattle.table.specs.Table.{empty_table}
use Rattle.mem.proofs.Mems.{table-start}
use Rattle.mem.proofs.put_empty.Goals as goal

pub returns : goal.returns
returns c =
    table-start c.args.mem.now _ _ empty_table c.requires empty-fits c.put_flag.ensures c.put_empty.ensures
