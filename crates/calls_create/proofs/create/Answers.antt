-- `calls_create::create`: memory has the table.
use Rattle.sefs.specs.Create.{call_create}
use Rattle.calls_create.proofs.Held.{returned-table}
use Rattle.calls_create.proofs.create.Goals as goal

pub returns : goal.returns
returns c =
    returned-table (λ u. call_create c.args.arena.now u c.args.who c.args.h c.args.name.now c.args.new.kind c.args.new.mode c.args.new.time c.args.new.file) _ _ c.put_table.ensures.0 c.create_on-r.ensures c.settle_held.ensures
