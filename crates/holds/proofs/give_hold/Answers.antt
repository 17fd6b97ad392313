-- `holds::give_hold`: the hold, then the next stamp.
use Rattle.holds.proofs.Laws.{given}
use Rattle.holds.proofs.give_hold.Goals as goal

pub returns : goal.returns
returns c =
    given c.args.mem.now _ _ c.args.who c.args.row c.args.n _ c.next_stamp-next.ensures c.put_hold.ensures.table c.put_next.ensures.table
