-- `holds::put_hold`: the hold's bytes are laid over its own place.
use mathlib.Core.Path.{sym, subst}
use mathlib.Core.List.{List}
use Prim.Native.Nat.{ℕ}
use Rattle.table.specs.Table.{with_hold}
use Rattle.mem.specs.Mem.{table_in, Tabled}
use Rattle.mem.proofs.Owned.{hold-fits}
use Rattle.holds.proofs.Laws.{hold-put}
use Rattle.holds.proofs.put_hold.Goals as goal

pub returns : goal.returns
returns c =
    let m = c.args.mem.now in
    subst (λ (l : List ℕ). Tabled m l (with_hold (table_in m) c.args.n c.args.h)) (sym c.put_hold.ensures)
    (hold-put m c.args.n c.args.h c.requires.0 c.requires.1 (hold-fits c.args.h _ c.well_formed.1.1.0))
