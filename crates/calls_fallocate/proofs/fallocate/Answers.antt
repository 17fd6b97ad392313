-- `calls_fallocate::fallocate`: memory has the table, and what the call left there is settled.
use Rattle.ranges.specs.Ranges.{call_fallocate}
use Rattle.steps.proofs.Ends.{returned-table}
use Rattle.calls_fallocate.proofs.fallocate.Goals as goal

pub returns : goal.returns
returns c =
    returned-table (λ u. call_fallocate c.args.arena.now u c.args.who c.args.h c.args.mode c.args.from c.args.len) _ _ c.put_table.ensures.0
    c.fallocate_on-r.ensures c.settle.ensures
