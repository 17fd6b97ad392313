-- `calls_remove::pick_name`: the slot, then what it names.
use Rattle.std.proofs.lemmas.Result.{err_from_is_err_and}
use Rattle.base.proofs.Tells.{number-ne}
use mathlib.Core.Path.{refl}
use Rattle.calls_remove.proofs.Parts.{slot-stop, slot_next}
use Rattle.calls_remove.proofs.pick_name.Goals as goal

pub returns-in_err-place : goal.returns-in_err-place
returns-in_err-place c =
    let p = err_from_is_err_and c.from_residual.result c.from_residual.ensures.1 in
    rw (p.1, p.2) (slot-stop c.args.folder c.args.arena.now c.args.mem.now c.args.i c.args.name.now c.find_slot.new.slot _ _ _ c.rec_at.ensures c.in_err-place.ensures (number-ne c.in_err-place.field-0.0))

pub returns : goal.returns
returns c =
    slot_next c.args.folder c.args.arena.now c.args.mem.now c.args.i c.args.name.now c.find_slot.new.slot _ _ _ c.rec_at.ensures c.in_ok-place.ensures _ c.u32_at.ensures refl c.pick_id.ensures
