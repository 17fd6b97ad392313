-- `fsck_links::count_names`: the counts begin at 0, and then hold how often each id is named.
use Rattle.mem.specs.Mem.{table_in}
use Rattle.fsck_links.proofs.Counts.{counted_is}
use Rattle.fsck_links.proofs.count_names.Goals as goal

pub returns : goal.returns
returns c =
    let L = c.requires.led in
    counted_is c.args.arena.now (table_in c.args.mem.now) _ (record { length = L.whole; sound = L.fine }) c.requires.mem_value.0 c.requires.mem_value.1 c.count_all.ensures
