-- `holds::well_formed`: the lengths are the bytes', the rest the callees'.
use Rattle.table.specs.Formed.{well_formed}
use Rattle.holds.proofs.Laws.{shaped_in}
use Rattle.holds.proofs.well_formed.Goals as goal

pub returns : goal.returns
unfolding well_formed
returns c = rw (shaped_in c.args.mem.now, c.next_stamp.ensures, c.holds_ok.ensures, c.owners_ok.ensures, c.rows_ok.ensures)
