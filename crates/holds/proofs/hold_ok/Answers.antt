-- `holds::hold_ok`: a hold that is free, or live.
use Rattle.mem.specs.Mem.{table_in}
use Rattle.holds.proofs.Laws.{hold-free, hold-live}
use Rattle.holds.proofs.hold_ok.Goals as goal

pub returns-then-h-eq0 : goal.returns-then-h-eq0
returns-then-h-eq0 c =
    hold-free (table_in c.args.mem.now) c.args.n _ c.hold_at-h.ensures c.if-h-eq0.true

pub live_ok-requires : goal.live_ok-requires
live_ok-requires c =
    (c.requires.0, c.hold_at-h.ensures)

pub returns : goal.returns
returns c =
    hold-live (table_in c.args.mem.now) c.args.n _ c.hold_at-h.ensures _ c.if-h-eq0.false c.live_ok.ensures
