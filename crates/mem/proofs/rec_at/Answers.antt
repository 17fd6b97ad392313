-- `mem::rec_at`: a field of the row.
use mathlib.Core.Path.{ap}
use Rattle.table.specs.declared.Row.{Row}
use Rattle.mem.proofs.rec_at.Goals as goal

pub returns : goal.returns
returns c = ap (λ (r : Row). r.rec) c.row_at-row.ensures
