-- `calls_entry::write_entry`: the slot is copied once it was read.
use Rattle.std.proofs.lemmas.Result.{err_from_is_err_and}
use Rattle.base.proofs.Tells.{number-ne}
use mathlib.Core.Path.{refl}
use mathlib.Core.Path.{sym, ◌∙◌}
use lib.Seq.{length-take-le}
use Rattle.base.proofs.Outs.{went-has}
use Rattle.calls_entry.proofs.Entries.{entry-not, entry-copied}
use Rattle.calls_entry.proofs.write_entry.Goals as goal

pub returns-in_err-named_slot : goal.returns-in_err-named_slot
returns-in_err-named_slot c =
    let p = err_from_is_err_and c.from_residual.result c.from_residual.ensures.1 in
    rw (p.1, p.2) (entry-not c.in_err-named_slot.ensures _ _ (number-ne c.in_err-named_slot.field-0.0))

pub slice_bounds-copy-end-2 : goal.slice_bounds-copy-end-2
slice_bounds-copy-end-2 c = sym (length-take-le 264 c.args.out.now c.requires.slot_len.1.1)

pub copy-requires : goal.copy-requires
copy-requires c =
    length-take-le 264 c.args.out.now c.requires.slot_len.1.1
    ∙ sym (went-has c.in_ok-named_slot.ensures refl)

pub returns : goal.returns
returns c = entry-copied c.in_ok-named_slot.ensures _ _ 264 refl (went-has c.in_ok-named_slot.ensures refl) c.copy.ensures
