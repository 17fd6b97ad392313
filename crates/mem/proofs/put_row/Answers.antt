-- `mem::put_row`: the row's bytes are laid over its own place.
use native.Mathlib.Omega.{arith}
use mathlib.Core.Path.{◌∙◌, ap}
use mathlib.Core.List.{List}
use Prim.Native.Nat.{ℕ}
use Rattle.base.specs.Parts.{part}
use Rattle.table_bytes.specs.Fits.{RowFits}
use Rattle.mem.specs.Mem.{table_in, memory_size}
use Rattle.mem.proofs.Owned.{row_fits}
use Rattle.mem.proofs.Mems.{row_put, row-put-rest, tabled}
use Rattle.mem.proofs.put_row.Goals as goal
use Rattle.mem.proofs.put_row.Goals.{Start}

fits : (s : Start) → RowFits s.args.row
fits s = row_fits s.args.row _ s.well_formed.1.1.0

pub returns : goal.returns
returns c =
    let m = c.args.mem.now in
    let W = c.requires.0 in
    let e = c.put_row.ensures.0 in
    tabled m _ W.size (c.put_row.auto.out ∙ W.size)
    (ap (λ (l : List ℕ). part l 4402 memory_size) e ∙ row-put-rest m c.args.i c.args.row (omega arith) c.requires.1 (fits (goal.at.returns c).Start))
    _ W (ap table_in e ∙ row_put m c.args.i c.args.row (omega arith) c.requires.1 (fits (goal.at.returns c).Start))
