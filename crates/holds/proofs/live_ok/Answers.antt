-- `holds::live_ok`: the tests in turn.
use Rattle.mem.specs.Mem.{table_in}
use Rattle.holds.proofs.Laws.{live-off, live_in}
use Rattle.holds.proofs.live_ok.Goals as goal

pub returns-then-row-ge34 : goal.returns-then-row-ge34
returns-then-row-ge34 c =
    live-off (table_in c.args.mem.now) c.args.n c.args.h c.requires.1 _ c.index-row.ensures c.if-row-ge34.true

pub returns : goal.returns
returns c =
    live_in (table_in c.args.mem.now) c.args.n c.args.h c.requires.1 _ _ _ _ _ _ c.index-row.ensures c.if-row-ge34.false c.id_at.ensures c.next_stamp.ensures c.find_hold.ensures c.is_at.ensures c.is_owner.ensures
