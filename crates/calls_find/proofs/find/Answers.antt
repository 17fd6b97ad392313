-- `calls_find::find`: memory has the table.
use Rattle.sefs.specs.Open.{call_find}
use Rattle.calls_find.proofs.Finds.{given-table}
use Rattle.calls_find.proofs.find.Goals as goal

pub returns : goal.returns
returns c =
    let s = c.args in
    given-table (λ u. call_find s.arena.now u s.who s.h s.name.now) _ _ c.put_table.ensures.0 c.find_on-r.ensures c.settle_held.ensures
