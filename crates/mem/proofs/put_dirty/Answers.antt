-- `mem::put_dirty`: the row with another mark.
use mathlib.Core.Path.{subst}
use Rattle.table.specs.declared.Row.{Row}
use Rattle.table.specs.Table.{take_row}
use Rattle.mem.specs.Mem.{table_in, Tabled}
use Rattle.mem.proofs.put_dirty.Goals as goal

pub returns : goal.returns
returns c =
    let m = c.args.mem.now in
    subst (λ (r : Row). Tabled m c.put_row.new.mem (take_row (table_in m) c.args.i r.id r.rec c.args.dirty)) c.row_at-row.ensures c.put_row.ensures
