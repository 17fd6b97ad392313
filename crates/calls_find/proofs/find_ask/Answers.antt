-- `calls_find::find_ask`: the name, then the folder.
use Rattle.std.proofs.lemmas.Result.{err_from_is_err_and}
use Rattle.base.proofs.Tells.{number-ne}
use mathlib.Core.Path.{refl}
use mathlib.Core.Path.{◌∙◌}
use Rattle.calls_find.proofs.Finds.{good-stop, good-next}
use Rattle.calls_find.proofs.find_ask.Goals as goal

pub returns-in_err-good_name : goal.returns-in_err-good_name
returns-in_err-good_name c =
    let p = err_from_is_err_and c.from_residual.result c.from_residual.ensures.1 in
    rw (p.1, p.2) (good-stop c.args.rec c.args.name.now _ c.in_err-good_name.ensures (number-ne c.in_err-good_name.field-0.0))

pub returns : goal.returns
returns c = c.find_folder.ensures ∙ good-next c.args.rec c.args.name.now _ c.in_ok-good_name.ensures refl
