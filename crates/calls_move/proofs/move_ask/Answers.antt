-- `calls_move::move_ask`: question after question.
use Rattle.std.proofs.lemmas.Result.{err_from_is_err_and}
use Rattle.base.proofs.Tells.{number-ne}
use mathlib.Core.Path.{refl}
use Rattle.calls_move.proofs.Asks.{ask-good, ask-live, ask-late}
use Rattle.calls_move.proofs.move_ask.Goals as goal

pub returns-in_err-good_names : goal.returns-in_err-good_names
returns-in_err-good_names c =
    let p = err_from_is_err_and c.from_residual.result c.from_residual.ensures.1 in
    rw (p.1, p.2) (ask-good c.args.source c.args.target c.args.old.now c.args.name.now c.in_err-good_names.ensures (number-ne c.in_err-good_names.field-0.0))

pub returns-in_err-live_folder : goal.returns-in_err-live_folder
returns-in_err-live_folder c =
    let p = err_from_is_err_and c.from_residual-in_err-live_folder.result c.from_residual-in_err-live_folder.ensures.1 in
    rw (p.1, p.2) (ask-live c.args.source c.args.target c.args.old.now c.args.name.now c.in_ok-good_names.ensures refl c.in_err-live_folder.ensures (number-ne c.in_err-live_folder.field-0.0))

pub returns : goal.returns
returns c =
    ask-late c.args.source c.args.target c.args.old.now c.args.name.now c.in_ok-good_names.ensures refl c.in_ok-live_folder.ensures refl c.ask_late.ensures
