-- `calls::live_folder`: question after question.
use Rattle.std.proofs.lemmas.Result.{err_from_is_err_and}
use Rattle.base.proofs.Tells.{number-ne}
use mathlib.Core.Path.{refl}
use mathlib.Core.Path.{◌∙◌}
use Rattle.calls.proofs.Asks.{live-stop, live-next, folder-stop, folder-next}
use Rattle.calls.proofs.live_folder.Goals as goal

pub returns-in_err-known : goal.returns-in_err-known
returns-in_err-known c =
    let p = err_from_is_err_and c.from_residual.result c.from_residual.ensures.1 in
    rw (p.1, p.2) (live-stop c.args.rec _ c.in_err-known.ensures (number-ne c.in_err-known.field-0.0))

pub returns-in_err-folder : goal.returns-in_err-folder
returns-in_err-folder c =
    let p = err_from_is_err_and c.from_residual-in_err-folder.result c.from_residual-in_err-folder.ensures.1 in
    rw (p.1, p.2) (let r = c.args.rec in
    folder-stop r _ c.in_err-folder.ensures (number-ne c.in_err-folder.field-0.0)
    ∙ live-next r _ c.in_ok-known.ensures refl)

pub returns : goal.returns
returns c =
    let r = c.args.rec in
    c.not_removed.ensures
    ∙ folder-next r _ c.in_ok-folder.ensures refl
    ∙ live-next r _ c.in_ok-known.ensures refl
