-- `calls_remove::remove_named`: memory has the table, and what the call left there is settled.
use Rattle.sefs.specs.Remove.{call_remove}
use Rattle.steps.proofs.Ends.{returned-table}
use Rattle.calls_remove.proofs.remove_named.Goals as goal

pub returns : goal.returns
returns c =
    returned-table (λ u. call_remove c.args.folder c.args.arena.now u c.args.who c.args.h c.args.name.now) _ _ c.put_table.ensures.0 c.remove_on-r.ensures c.settle.ensures
