-- `sizes::ask_record`: the type, then the end.
use Rattle.std.proofs.lemmas.Result.{err_from_is_err_and}
use Rattle.base.proofs.Tells.{number-ne}
use mathlib.Core.Path.{refl}
use mathlib.Core.Path.{◌∙◌}
use Prim.Native.Nat.{◌+◌}
use Rattle.sizes.proofs.Asked.{record-stop, record-next}
use Rattle.sizes.proofs.ask_record.Goals as goal

pub returns-in_err-has_contents : goal.returns-in_err-has_contents
returns-in_err-has_contents c =
    let p = err_from_is_err_and c.from_residual.result c.from_residual.ensures.1 in
    rw (p.1, p.2) (let s = c.args in
    record-stop s.rec (s.place + s.n) _ c.in_err-has_contents.ensures (number-ne c.in_err-has_contents.field-0.0))

pub returns : goal.returns
returns c =
    let s = c.args in
    c.not_too_big.ensures ∙ record-next s.rec (s.place + s.n) _ c.in_ok-has_contents.ensures refl
