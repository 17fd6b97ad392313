-- `calls_find::root`: memory has the table.
use Rattle.sefs.specs.Open.{call_root}
use Rattle.calls_find.proofs.Finds.{given-table}
use Rattle.calls_find.proofs.root.Goals as goal

pub returns : goal.returns
returns c =
    let s = c.args in
    given-table (λ u. call_root s.arena.now u s.who) _ _ c.put_table.ensures.0 c.root_on-h.ensures c.settle_held.ensures
