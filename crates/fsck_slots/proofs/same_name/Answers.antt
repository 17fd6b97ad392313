-- `fsck_slots::same_name`: the bytes of the slot's name.
use Rattle.fsck_slots.proofs.Names.{named-is}
use Rattle.fsck_slots.proofs.same_name.Goals as goal

pub returns : goal.returns
returns c =
    named-is c.args.arena.now c.args.name.now c.args.rec c.args.k _ _ c.equal.result c.read_slot.ensures c.name_of.ensures c.equal.ensures
