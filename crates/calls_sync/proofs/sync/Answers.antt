-- `calls_sync::sync`: memory has the table, and afterwards the one that the call leaves.
use Rattle.table.specs.declared.Table.{Table}
use Rattle.sefs.specs.Close.{call_sync}
use Rattle.steps.proofs.Ends.{returned-table}
use Rattle.calls_sync.proofs.sync.Goals as goal

pub sync_on-r-requires : goal.sync_on-r-requires
sync_on-r-requires c = c.put_table.ensures.1

pub returns : goal.returns
returns c =
    returned-table (λ (u : Table). call_sync c.args.arena.now u) _ _ c.put_table.ensures.0 c.sync_on-r.ensures c.settle.ensures
