-- `folders::put_dots`: the slot that was made is the one that is stored.
use Rattle.folders.proofs.Folders.{put-slot-as}
use Rattle.folders.proofs.put_dots.Goals as goal

pub returns : goal.returns
returns c =
    put-slot-as c.args.i 1 c.put_entry.ensures c.put_slot.ensures
