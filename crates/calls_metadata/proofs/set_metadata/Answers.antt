-- `calls_metadata::set_metadata`: memory has the table, and afterwards the one that the call leaves.
use Rattle.table.specs.declared.Table.{Table}
use Rattle.sefs.specs.Read.{call_set}
use Rattle.calls_metadata.proofs.Tells.{settled}
use Rattle.calls_metadata.proofs.set_metadata.Goals as goal

pub set_on-r-requires : goal.set_on-r-requires
set_on-r-requires c = c.put_table.ensures.1

pub returns : goal.returns
returns c =
    let a = c.args in
    settled (λ (u : Table). call_set a.arena.now u a.who a.h a.mode a.uid a.gid a.atime a.mtime a.ctime) _ c.put_table.ensures.0 c.set_on-r.ensures c.settle.ensures
