-- `calls_walk::walk`: memory has the table.
use mathlib.Core.Path.{◌∙◌, ap}
use lib.ListN.{length}
use Rattle.base.specs.Parts.{paste}
use Rattle.table.specs.declared.Table.{Table}
use Rattle.walk.specs.Walk.{call_walk}
use Rattle.calls_find.proofs.Finds.{given-table}
use Rattle.calls_walk.proofs.walk.Goals as goal

pub returns : goal.returns
returns c =
    let s = c.args in record { gives = given-table (λ u. (call_walk s.arena.now u s.who s.h s.path.now (length s.links.now)).end) _ _ c.put_table.ensures.0 c.walk_on-r.ensures.went c.settle_held.ensures; links_after = c.walk_on-r.ensures.links_after ∙ ap (λ (u : Table). paste s.links.now 0 (call_walk s.arena.now u s.who s.h s.path.now (length s.links.now)).links) c.put_table.ensures.0 }
