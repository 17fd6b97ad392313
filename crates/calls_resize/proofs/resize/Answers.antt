-- `calls_resize::resize`: memory has the table, and what the call left there is settled.
use Rattle.sefs.specs.Contents.{call_resize}
use Rattle.steps.proofs.Ends.{returned-table}
use Rattle.calls_resize.proofs.resize.Goals as goal

pub returns : goal.returns
returns c =
    returned-table (λ u. call_resize c.args.arena.now u c.args.who c.args.h c.args.n) _ _ c.put_table.ensures.0 c.resize_on-r.ensures c.settle.ensures
