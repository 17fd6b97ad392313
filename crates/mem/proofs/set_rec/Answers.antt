-- `mem::set_rec`: the row with its own id.
use mathlib.Core.Path.{subst}
use Prim.Native.Nat.{ℕ}
use mathlib.Core.Bool.{true}
use Rattle.table.specs.Table.{take_row}
use Rattle.mem.specs.Mem.{table_in, Tabled}
use Rattle.mem.proofs.set_rec.Goals as goal

pub returns : goal.returns
returns c =
    let m = c.args.mem.now in
    subst (λ (id : ℕ). Tabled m c.put_row.new.mem (take_row (table_in m) c.args.i id c.args.rec true)) c.id_at-id.ensures c.put_row.ensures
