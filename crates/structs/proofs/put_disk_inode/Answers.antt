-- `structs::put_disk_inode`: two parts, one after another.
use mathlib.Core.Path.{◌≡◌}
use lib.ListN.{length}
use Rattle.structs.proofs.Layouts.{record-in-two}
use borrow.Author.Rules.{rules}
use Rattle.structs.proofs.put_disk_inode.Goals as goal
use Rattle.structs.proofs.put_disk_inode.Goals.{Start}

file : (s : Start) → length s.args.r.file ≡ 16
file s = search rules

mac : (s : Start) → length s.args.r.mac ≡ 16
mac s = search rules

pub returns : goal.returns
returns c =
    record-in-two _ _ _ _ _ (file c.before.before.before.before.before.before.before.before.before.before) (mac c.before.before.before.before.before.before.before.before.before.before) c.requires c.put_numbers.ensures c.put_rest.ensures
