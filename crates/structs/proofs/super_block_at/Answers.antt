-- `structs::super_block_at`: field by field.
use lib.Dec.{lit≤}
use Rattle.structs.specs.Layout.{super_of}
use Rattle.structs.proofs.Layouts.{read_first, read_number}
use Rattle.structs.proofs.super_block_at.Goals as goal

pub returns : goal.returns
unfolding super_of
returns c =
    let l = c.args.s.now in
    let at = c.args.at in
    λ x. record {
      magic = read_first l at 16 4 _ (lit≤ tt) c.u32_at.ensures x;
      blocks = read_number l at 16 4 4 _ (lit≤ tt) c.u32_at-2.ensures x;
      unused = read_number l at 16 8 4 _ (lit≤ tt) c.u32_at-3.ensures x;
      groups = read_number l at 16 12 4 _ (lit≤ tt) c.u32_at-4.ensures x;
    }
