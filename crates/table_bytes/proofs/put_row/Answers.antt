-- `table_bytes::put_row`: three fields, one after another.
use mathlib.Core.Path.{◌≡◌, refl}
use native.Mathlib.Omega.{arith}
use lib.ListN.{length}
use Rattle.le.specs.Le.{le_put}
use Rattle.le.proofs.Laws.{length-le_bytes}
use Rattle.structs.proofs.Joins.{laid-first, laid_next, laid-last}
use Rattle.structs.proofs.Layouts.{length-record_bytes}
use Rattle.table_bytes.specs.Layout.{row_bytes, row_fields}
use Rattle.table_bytes.proofs.Layouts.{length-row_bytes}
use borrow.Author.Rules.{rules}
use Rattle.table_bytes.proofs.put_row.Goals as goal
use Rattle.table_bytes.proofs.put_row.Goals.{Start}

file : (s : Start) → length s.args.r.rec.file ≡ 16
file s = search rules

mac : (s : Start) → length s.args.r.rec.mac ≡ 16
mac s = search rules

pub returns : goal.returns
unfolding row_bytes row_fields le_put
returns c =
    let f = file c.before.before.before.before.before.before.before.before.before.before.before.before.before.before.before.before in
    let m = mac c.before.before.before.before.before.before.before.before.before.before.before.before.before.before.before.before in
    let e =
    (laid-first 4 _ _ _ _ _ _ (length-le_bytes 4 _) c.put_u32.auto.s c.put_u32.ensures
    (laid_next 4 1 _ _ _ _ _ _ refl c.put_byte.auto.out (rw c.one-mark.ensures at c.put_byte.ensures)
    (laid-last _ _ _ _ (omega (arith, length-record_bytes c.args.r.rec f m)) c.put_disk_inode.ensures))).is in
    (e, length-row_bytes c.args.r f m)
