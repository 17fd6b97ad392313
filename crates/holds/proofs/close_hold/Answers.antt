-- `holds::close_hold`: the two cases.
use mathlib.Core.Path.{sym, ap}
use Rattle.table.specs.declared.Hold.{Hold}
use Rattle.holds.proofs.Laws.{closed}
use Rattle.table.proofs.Holds.{close-out}
use Rattle.holds.proofs.close_hold.Goals as goal

pub returns-then-n-ge32 : goal.returns-then-n-ge32
returns-then-n-ge32 c = sym (close-out _ _ _ c.index-n.ensures c.if-n-ge32.true)

pub returns : goal.returns
returns c =
    closed c.args.mem.now _ c.args.hold _ _ _ _ c.index-n.ensures c.if-n-ge32.false (ap (λ (h : Hold). h.row) c.hold_at-row.ensures) c.put_hold.ensures.table c.index.ensures c.row_held.ensures
