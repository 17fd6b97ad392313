-- `mem::clear_row`: a row of zeros.
use mathlib.Core.Path.{subst}
use mathlib.Core.Bool.{false}
use Rattle.structs.specs.declared.DiskINode.{DiskINode}
use Rattle.table.specs.Table.{take_row}
use Rattle.mem.specs.Mem.{table_in, Tabled}
use Rattle.mem.proofs.clear_row.Goals as goal

pub returns : goal.returns
returns c =
    let m = c.args.mem.now in
    subst (λ (r : DiskINode). Tabled m c.put_row.new.mem (take_row (table_in m) c.args.i 0 r false)) c.zero_record.ensures c.put_row.ensures
