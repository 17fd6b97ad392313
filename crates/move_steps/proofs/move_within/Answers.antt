-- `move_steps::move_within`: the slot, the replaced node, the record; 3 blocks, 18 and 3.
use Rattle.std.proofs.lemmas.Result.{err_from_is_err_and}
use Rattle.base.proofs.Tells.{number-ne}
use mathlib.Core.Path.{refl}
use Rattle.base.proofs.Outs.{went-has}
use Rattle.move_steps.proofs.Steps.{within-stop, within-gone, within-done}
use borrow.Author.Rules.{rules}
use native.Mathlib.Omega.{arith}
use Rattle.move_steps.proofs.move_within.Goals as goal

pub put_slot-requires : goal.put_slot-requires
put_slot-requires c =
    (c.requires.0, (omega (arith, c.requires.1.0), (c.requires.1.1.0, c.requires.1.1.1.0)))

pub returns-in_err-put_slot : goal.returns-in_err-put_slot
returns-in_err-put_slot c =
    let p = err_from_is_err_and c.from_residual.result c.from_residual.ensures.1 in
    rw (p.1, p.2) (within-stop _ _ c.args.i c.args.k c.args.gone (λ j. search rules) c.requires.1.1.1.0 c.in_err-put_slot.ensures _ _ (number-ne c.in_err-put_slot.field-0.0))

pub remove_gone-requires : goal.remove_gone-requires
remove_gone-requires c =
    let k = went-has c.in_ok-put_slot.ensures refl in
    (record { fine = k.fine; whole = k.whole }, (omega (arith, k.room, c.requires.1.0), (c.requires.1.1.0, (c.requires.1.1.1.0, c.requires.1.1.1.1))))

pub returns-in_err-remove_gone : goal.returns-in_err-remove_gone
returns-in_err-remove_gone c =
    let p = err_from_is_err_and c.from_residual-in_err-remove_gone.result c.from_residual-in_err-remove_gone.ensures.1 in
    rw (p.1, p.2) (within-gone _ _ c.args.i c.args.k c.args.gone (λ j. search rules) c.requires.1.1.1.0 c.in_ok-put_slot.ensures refl c.in_err-remove_gone.ensures _ _ (number-ne c.in_err-remove_gone.field-0.0))

pub sync_row-requires : goal.sync_row-requires
sync_row-requires c =
    let k = went-has c.in_ok-put_slot.ensures refl in
    let d = went-has c.in_ok-remove_gone.ensures refl in
    (record { fine = d.fine; whole = d.whole }, (omega (arith, k.room, d.room, c.requires.1.0), c.requires.1.1.0))

pub returns : goal.returns
returns c =
    within-done _ _ c.args.i c.args.k c.args.gone (λ j. search rules) c.requires.1.1.1.0 c.in_ok-put_slot.ensures refl c.in_ok-remove_gone.ensures refl c.sync_row.ensures
