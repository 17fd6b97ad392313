-- `fsck_slots::size_ok`: the file's length by its end.
use mathlib.Core.Path.{refl}
use Rattle.fsck_slots.proofs.Slots.{size_is}
use Rattle.fsck_slots.proofs.size_ok.Goals as goal

pub returns : goal.returns
returns c =
    size_is c.args.arena.now c.args.rec c.length_of.result c.length_by.result _ c.length_of.ensures.0 c.length_by.ensures refl
