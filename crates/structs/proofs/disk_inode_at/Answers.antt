-- `structs::disk_inode_at`: field by field.
use lib.Dec.{lit≤}
use Rattle.structs.specs.Layout.{record_of}
use Rattle.structs.proofs.Layouts.{read-bytes, read_first, read_number, read-time}
use Rattle.structs.proofs.disk_inode_at.Goals as goal

pub returns : goal.returns
unfolding record_of
returns c =
    let l = c.args.s.now in
    let at = c.args.at in
    λ x. record {
      size = read_first l at 112 8 _ (lit≤ tt) c.u64_at.ensures x;
      kind = read_number l at 112 8 4 _ (lit≤ tt) c.u32_at.ensures x;
      mode = read_number l at 112 12 2 _ (lit≤ tt) c.u16_at.ensures x;
      nlinks = read_number l at 112 14 2 _ (lit≤ tt) c.u16_at-2.ensures x;
      blocks = read_number l at 112 16 4 _ (lit≤ tt) c.u32_at-2.ensures x;
      uid = read_number l at 112 20 4 _ (lit≤ tt) c.u32_at-3.ensures x;
      gid = read_number l at 112 24 4 _ (lit≤ tt) c.u32_at-4.ensures x;
      pad = read_number l at 112 28 4 _ (lit≤ tt) c.u32_at-5.ensures x;
      atime = read-time l at 112 32 _ (lit≤ tt) c.timespec_at.ensures x;
      mtime = read-time l at 112 48 _ (lit≤ tt) c.timespec_at-2.ensures x;
      ctime = read-time l at 112 64 _ (lit≤ tt) c.timespec_at-3.ensures x;
      file = read-bytes l at 112 80 16 _ (lit≤ tt) c.bytes16_at.ensures x;
      mac = read-bytes l at 112 96 16 _ (lit≤ tt) c.bytes16_at-2.ensures x;
    }
