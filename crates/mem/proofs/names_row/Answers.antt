-- `mem::names_row`: the bytes at its place.
use mathlib.Core.Path.{◌≡◌, sym, ap, ap₂, ◌∙◌}
use mathlib.Core.Bool.{not, ◌&&◌}
use Prim.Native.Nat.{ℕ}
use lib.Dec.{eqb}
use Rattle.table.specs.declared.Hold.{Hold}
use Rattle.table.specs.Table.{hold_at}
use Rattle.mem.specs.Mem.{table_in}
use Rattle.mem.proofs.Mems.{hold-read}
use Rattle.mem.proofs.names_row.Goals as goal

pub returns : goal.returns
returns c =
    let m = c.args.mem.now in
    let e : c.hold_in-h.result ≡ hold_at (table_in m) c.args.n = c.hold_in-h.ensures ∙ sym (hold-read m c.args.n c.requires.1) in
    let r : c.index.result ≡ (hold_at (table_in m) c.args.n).row = c.index.ensures ∙ ap (λ (h : Hold). h.row) e in
    ap₂ (λ (h : Hold) (k : ℕ). not (eqb h.stamp 0) && eqb k c.args.i) e r
