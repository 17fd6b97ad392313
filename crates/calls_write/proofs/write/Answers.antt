-- `calls_write::write`: memory has the table, and what the call left there is settled.
use Rattle.sefs.specs.Contents.{call_write}
use Rattle.steps.proofs.Ends.{returned-table}
use Rattle.calls_write.proofs.write.Goals as goal

pub returns : goal.returns
returns c =
    returned-table (λ u. call_write c.args.arena.now u c.args.who c.args.h c.args.place c.args.src.now) _ _ c.put_table.ensures.0 c.write_on-r.ensures c.settle.ensures
