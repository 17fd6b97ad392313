-- `list_slots::slots::list_slot`: the slot, and then its type.
use Rattle.std.proofs.lemmas.Result.{err_from_is_err_and}
use Rattle.base.proofs.Tells.{number-ne}
use mathlib.Core.Path.{refl}
use Rattle.list_slots.proofs.Turns.{list-stop, list_done, list-stuck}
use Rattle.list_slots.proofs.slots.list_slot.Goals as goal

pub returns-in_err-named_slot : goal.returns-in_err-named_slot
returns-in_err-named_slot c =
    let p = err_from_is_err_and c.from_residual.result c.from_residual.ensures.1 in
    rw (p.1, p.2) (list-stop _ c.args.rec c.args.k c.in_err-named_slot.ensures (number-ne c.in_err-named_slot.field-0.0))

pub returns-then-u32_at-eq0 : goal.returns-then-u32_at-eq0
returns-then-u32_at-eq0 c =
    list-stuck _ c.args.rec c.args.k c.in_ok-named_slot.ensures _ refl c.u32_at.ensures c.if-u32_at-eq0.true

pub returns : goal.returns
returns c =
    list_done _ c.args.rec c.args.k c.in_ok-named_slot.ensures _ refl c.u32_at.ensures c.if-u32_at-eq0.false
