-- `calls_path::path_ask`: one question after another.
use Rattle.std.proofs.lemmas.Result.{err_from_is_err_and}
use Rattle.base.proofs.Tells.{number-ne}
use mathlib.Core.Path.{refl}
use mathlib.Core.Path.{◌∙◌}
use Rattle.calls_path.proofs.Answers.{ask-stop, ask-next}
use Rattle.calls_path.proofs.path_ask.Goals as goal

pub returns-in_err-readable : goal.returns-in_err-readable
returns-in_err-readable c =
    let p = err_from_is_err_and c.from_residual.result c.from_residual.ensures.1 in
    rw (p.1, p.2) (ask-stop _ _ c.in_err-readable.ensures (number-ne c.in_err-readable.field-0.0))

pub returns : goal.returns
returns c = c.not_removed.ensures ∙ ask-next _ _ c.in_ok-readable.ensures refl
