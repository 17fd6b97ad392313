-- `table_bytes::row_in`: field by field.
use Prim.Native.Nat.{◌+◌}
use mathlib.Core.Path.{refl, sym, ap, ◌∙◌}
use mathlib.Core.Bool.{not}
use native.Mathlib.Omega.{arith}
use lib.Dec.{eqb, lit≤}
use Rattle.base.proofs.Lists.{get_d_part}
use Rattle.structs.specs.Layout.{record_of}
use Rattle.structs.proofs.Layouts.{read-bytes, read_first}
use Rattle.table_bytes.specs.Layout.{row_from}
use Rattle.table_bytes.proofs.row_in.Goals as goal

pub returns : goal.returns
unfolding row_from
returns c =
    let l = c.args.s.now in
    let at = c.args.at in
    let d = sym (get_d_part l at (at + 117) 4 (omega arith)) in
    let r = c.disk_inode_at-rec.ensures ∙ ap record_of (read-bytes l at 117 5 112 _ (lit≤ tt) refl) in
    λ x. record {
      id = read_first l at 117 4 _ (lit≤ tt) c.u32_at-id.ensures x;
      dirty = not (eqb (d x) 0);
      rec = r x;
    }
