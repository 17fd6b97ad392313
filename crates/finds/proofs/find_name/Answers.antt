-- `finds::find_name`: question after question.
use Rattle.std.proofs.lemmas.Result.{err_from_is_err_and}
use Rattle.base.proofs.Tells.{number-ne}
use mathlib.Core.Path.{refl}
use mathlib.Core.Path.{◌∙◌}
use Rattle.finds.proofs.Asks.{long-stop, long-next}
use Rattle.finds.proofs.find_name.Goals as goal

pub returns-in_err-not_long : goal.returns-in_err-not_long
returns-in_err-not_long c =
    let p = err_from_is_err_and c.from_residual.result c.from_residual.ensures.1 in
    rw (p.1, p.2) (long-stop c.args.rec c.args.name.now _ c.in_err-not_long.ensures (number-ne c.in_err-not_long.field-0.0))

pub returns : goal.returns
returns c = c.not_orphan.ensures ∙ long-next c.args.rec c.args.name.now _ c.in_ok-not_long.ensures refl
