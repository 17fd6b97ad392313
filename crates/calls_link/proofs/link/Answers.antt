-- `calls_link::link`: memory has the table, and what the call left there is settled.
use Rattle.sefs.specs.Create.{call_link}
use Rattle.steps.proofs.Ends.{returned-table}
use Rattle.calls_link.proofs.link.Goals as goal

pub returns : goal.returns
returns c =
    returned-table (λ u. call_link c.args.arena.now u c.args.who c.args.h c.args.name.now c.args.child) _ _ c.put_table.ensures.0 c.link_on-r.ensures c.settle.ensures
