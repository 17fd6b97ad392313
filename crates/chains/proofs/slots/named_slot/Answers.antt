-- `chains::slots::named_slot`: the bytes, and then the name.
use Rattle.std.proofs.lemmas.Result.{err_from_is_err_and}
use Rattle.base.proofs.Tells.{number-ne}
use mathlib.Core.Path.{refl}
use mathlib.Core.Path.{sym, ◌∙◌}
use Rattle.chains.proofs.Lookups.{named-stop, named-done, named-stuck}
use Rattle.chains.proofs.slots.named_slot.Goals as goal

pub returns-in_err-slot_bytes : goal.returns-in_err-slot_bytes
returns-in_err-slot_bytes c =
    let p = err_from_is_err_and c.from_residual.result c.from_residual.ensures.1 in
    rw (p.1, p.2) (named-stop _ c.args.rec c.args.k c.in_err-slot_bytes.ensures (number-ne c.in_err-slot_bytes.field-0.0))

pub returns-then-is_ended : goal.returns-then-is_ended
returns-then-is_ended c =
    named-done _ c.args.rec c.args.k c.in_ok-slot_bytes.ensures refl (sym c.is_ended.ensures ∙ c.if-is_ended.true)

pub returns : goal.returns
returns c =
    named-stuck _ c.args.rec c.args.k c.in_ok-slot_bytes.ensures refl (sym c.is_ended.ensures ∙ c.if-is_ended.false)
