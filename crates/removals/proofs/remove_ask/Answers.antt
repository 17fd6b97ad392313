-- `removals::remove_ask`: question after question.
use Rattle.std.proofs.lemmas.Result.{err_from_is_err_and}
use Rattle.base.proofs.Tells.{number-ne}
use mathlib.Core.Path.{refl}
use mathlib.Core.Path.{◌∙◌}
use Rattle.removals.proofs.Parts.{ask-stop, ask-next, live-stop, live-next}
use Rattle.removals.proofs.remove_ask.Goals as goal

pub returns-in_err-good_name : goal.returns-in_err-good_name
returns-in_err-good_name c =
    let p = err_from_is_err_and c.from_residual.result c.from_residual.ensures.1 in
    rw (p.1, p.2) (ask-stop _ _ _ c.in_err-good_name.ensures (number-ne c.in_err-good_name.field-0.0))

pub returns-in_err-live_folder : goal.returns-in_err-live_folder
returns-in_err-live_folder c =
    let p = err_from_is_err_and c.from_residual-in_err-live_folder.result c.from_residual-in_err-live_folder.ensures.1 in
    rw (p.1, p.2) (let a = c.args in live-stop a.rec a.name.now _ c.in_err-live_folder.ensures (number-ne c.in_err-live_folder.field-0.0) ∙ ask-next a.rec a.name.now _ c.in_ok-good_name.ensures refl)

pub returns : goal.returns
returns c =
    let a = c.args in c.ask_name.ensures ∙ live-next a.rec a.name.now _ c.in_ok-live_folder.ensures refl ∙ ask-next a.rec a.name.now _ c.in_ok-good_name.ensures refl
