-- `calls_close::close`: memory has the table, and what the call left there is settled.
use Rattle.sefs.specs.Close.{call_close}
use Rattle.steps.proofs.Ends.{returned-table}
use Rattle.calls_close.proofs.close.Goals as goal

pub returns : goal.returns
returns c =
    returned-table (λ u. call_close c.args.arena.now u c.args.who c.args.h) _ _ c.put_table.ensures.0 c.close_on-r.ensures c.settle.ensures
