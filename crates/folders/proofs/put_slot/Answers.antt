-- `folders::put_slot`: the store of the slot, in the file of the row.
use Prim.Native.Nat.{◌*◌}
use lib.ListN.{length}
use Rattle.files.proofs.Puts.{touched-few}
use Rattle.folders.proofs.Folders.{put-slot-did}
use native.Mathlib.Omega.{arith}
use Rattle.folders.proofs.put_slot.Goals as goal

pub put-requires : goal.put-requires
put-requires c =
    let n = touched-few (264 * c.least.result) (length c.args.slot.now) (omega arith) in record { fine = (c.requires.0.fine, omega (arith, n)); name_len = (c.file_at-file.ensures.1, omega arith) }

pub returns : goal.returns
returns c =
    put-slot-did _ _ _ _ c.args.i c.args.k _ _ _ _ c.requires.0.whole c.requires.1.1.1 c.file_at-file.ensures.0 c.least.ensures c.put.ensures
