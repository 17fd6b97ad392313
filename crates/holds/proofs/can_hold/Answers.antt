-- `holds::can_hold`: the count and the stamp are the callees'.
use Rattle.table.specs.Table.{can_hold}
use Rattle.holds.proofs.can_hold.Goals as goal

pub returns : goal.returns
unfolding can_hold
returns c = rw (c.own_holds.ensures, c.next_stamp.ensures)
