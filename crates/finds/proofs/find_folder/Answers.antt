-- `finds::find_folder`: question after question.
use Rattle.std.proofs.lemmas.Result.{err_from_is_err_and}
use Rattle.base.proofs.Tells.{number-ne}
use mathlib.Core.Path.{refl}
use mathlib.Core.Path.{◌∙◌}
use Rattle.finds.proofs.Asks.{known-stop, known_next, folder-stop, folder-next}
use Rattle.finds.proofs.find_folder.Goals as goal

pub returns-in_err-known : goal.returns-in_err-known
returns-in_err-known c =
    let p = err_from_is_err_and c.from_residual.result c.from_residual.ensures.1 in
    rw (p.1, p.2) (known-stop c.args.rec c.args.name.now _ c.in_err-known.ensures (number-ne c.in_err-known.field-0.0))

pub returns-in_err-folder : goal.returns-in_err-folder
returns-in_err-folder c =
    let p = err_from_is_err_and c.from_residual-in_err-folder.result c.from_residual-in_err-folder.ensures.1 in
    rw (p.1, p.2) (let s = c.args in
    folder-stop s.rec s.name.now _ c.in_err-folder.ensures (number-ne c.in_err-folder.field-0.0) ∙ known_next s.rec s.name.now _ c.in_ok-known.ensures refl)

pub returns : goal.returns
returns c =
    let s = c.args in
    c.find_name.ensures ∙ (folder-next s.rec s.name.now _ c.in_ok-folder.ensures refl ∙ known_next s.rec s.name.now _ c.in_ok-known.ensures refl)
