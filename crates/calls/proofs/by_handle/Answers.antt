-- `calls::by_handle`: who asks, and the row that a live hold of theirs names.
use Rattle.std.proofs.lemmas.Result.{err_from_is_err_and}
use Rattle.base.proofs.Tells.{number-ne}
use mathlib.Core.Path.{refl}
use mathlib.Core.Path.{sym, ◌∙◌}
use Rattle.calls.proofs.Asks.{owner-not, handle-at, handle-not}
use Rattle.calls.proofs.by_handle.Goals as goal

pub returns-in_err-an_owner : goal.returns-in_err-an_owner
returns-in_err-an_owner c =
    let p = err_from_is_err_and c.from_residual.result c.from_residual.ensures.1 in
    rw (p.1, p.2) (owner-not _ _ _ _ c.in_err-an_owner.ensures (number-ne c.in_err-an_owner.field-0.0))

pub returns-in-Some : goal.returns-in-Some
returns-in-Some c =
    handle-at _ _ _ _ c.in_ok-an_owner.ensures refl (sym c.live-f.ensures ∙ c.in-Some.is)

pub returns-in-None : goal.returns-in-None
returns-in-None c =
    handle-not _ _ _ _ c.in_ok-an_owner.ensures refl (sym c.live-f.ensures ∙ c.in-None.is)
