-- `list_slots::write_slots`: the slots are written once each was read.
use Rattle.std.proofs.lemmas.Result.{err_from_is_err_and}
use Rattle.base.proofs.Tells.{number-ne}
use mathlib.Core.Path.{refl}
use Rattle.base.proofs.Outs.{went-is}
use Rattle.list_slots.proofs.Listings.{slots-stop}
use Rattle.list_slots.proofs.write_slots.Goals as goal

pub returns-in_err-list_check : goal.returns-in_err-list_check
returns-in_err-list_check c =
    let p = err_from_is_err_and c.from_residual.result c.from_residual.ensures.1 in
    rw (p.1, p.2) (slots-stop _ _ _ c.in_err-list_check.ensures (number-ne c.in_err-list_check.field-0.0))

pub list_write-requires : goal.list_write-requires
list_write-requires c =
    let p = c.requires.slot_len.1 in record { led = c.requires.led; end_value = (c.end_of-end.ensures.0, (c.end_of-end.ensures.1, (p.0, p.1))); n_value = went-is c.in_ok-list_check.ensures refl }
