-- `calls_link::link_ask`: question after question.
use Rattle.std.proofs.lemmas.Result.{err_from_is_err_and}
use Rattle.base.proofs.Tells.{number-ne}
use mathlib.Core.Path.{refl}
use Rattle.calls_link.proofs.Links.{ask-name, ask-live, ask-long}
use Rattle.calls_link.proofs.link_ask.Goals as goal

pub returns-in_err-new_name : goal.returns-in_err-new_name
returns-in_err-new_name c =
    let p = err_from_is_err_and c.from_residual.result c.from_residual.ensures.1 in
    rw (p.1, p.2) (ask-name c.args.rec _ c.in_err-new_name.ensures (number-ne c.in_err-new_name.field-0.0))

pub returns-in_err-live_folder : goal.returns-in_err-live_folder
returns-in_err-live_folder c =
    let p = err_from_is_err_and c.from_residual-in_err-live_folder.result c.from_residual-in_err-live_folder.ensures.1 in
    rw (p.1, p.2) (ask-live c.args.rec _ c.in_ok-new_name.ensures refl c.in_err-live_folder.ensures (number-ne c.in_err-live_folder.field-0.0))

pub returns : goal.returns
returns c =
    ask-long c.args.rec _ c.in_ok-new_name.ensures refl c.in_ok-live_folder.ensures refl c.not_long.ensures
