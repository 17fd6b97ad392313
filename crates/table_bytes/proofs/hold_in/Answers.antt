-- `table_bytes::hold_in`: field by field.
use Prim.Native.Nat.{◌+◌}
use mathlib.Core.Path.{sym}
use native.Mathlib.Omega.{arith}
use lib.Dec.{lit≤}
use Rattle.base.proofs.Lists.{get_d_part}
use Rattle.structs.proofs.Layouts.{read_first, read_number}
use Rattle.table_bytes.specs.Layout.{hold_from}
use Rattle.table_bytes.proofs.hold_in.Goals as goal

pub returns : goal.returns
unfolding hold_from
returns c =
    let l = c.args.s.now in
    let at = c.args.at in
    let o = sym (get_d_part l at (at + 13) 12 (omega arith)) in
    λ x. record {
      row = read_first l at 13 4 _ (lit≤ tt) c.u32_at.ensures x;
      stamp = read_number l at 13 4 8 _ (lit≤ tt) c.u64_at.ensures x;
      owner = o x;
    }
