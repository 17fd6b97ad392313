-- `climbs::dots_of`: a folder's type, then slot 1.
use Rattle.std.proofs.lemmas.Result.{err_from_is_err_and}
use Rattle.base.proofs.Tells.{number-ne}
use mathlib.Core.Path.{refl}
use Rattle.climbs.proofs.Climbs.{dots-other, dots-stop, dots-done}
use Rattle.climbs.proofs.dots_of.Goals as goal

pub returns-then-rec-ne2 : goal.returns-then-rec-ne2
returns-then-rec-ne2 c = λ m. dots-other _ m c.args.rec _ c.if-rec-ne2.true

pub returns-in_err-slot_bytes : goal.returns-in_err-slot_bytes
returns-in_err-slot_bytes c =
    let p = err_from_is_err_and c.from_residual.result c.from_residual.ensures.1 in
    rw (p.1, p.2) (λ m. dots-stop _ m c.args.rec c.if-rec-ne2.false c.in_err-slot_bytes.ensures _ (number-ne c.in_err-slot_bytes.field-0.0))

pub returns : goal.returns
returns c = λ m. dots-done _ m c.args.rec c.if-rec-ne2.false c.in_ok-slot_bytes.ensures _ refl c.u32_at.ensures
