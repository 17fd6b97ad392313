-- `calls_metadata::tell`: by the type.
use mathlib.Core.Path.{refl, sym, ◌∙◌, ap}
use Rattle.std.proofs.lemmas.Result.{err_from_is_err_and}
use Rattle.base.proofs.Tells.{number-ne}
use Rattle.base.specs.Out.{done}
use Rattle.calls_metadata.proofs.Tells.{told-stop, told-next}
use Rattle.calls_metadata.proofs.tell.Goals as goal

pub returns-in_err-known : goal.returns-in_err-known
returns-in_err-known c =
    let p = err_from_is_err_and c.from_residual.result c.from_residual.ensures.1 in
    rw (p.1, p.2) (sym (told-stop c.args.id c.args.rec _ c.in_err-known.ensures (number-ne c.in_err-known.field-0.0)))

pub returns : goal.returns
returns c = ap done c.metadata_of.ensures ∙ sym (told-next c.args.id c.args.rec _ c.in_ok-known.ensures refl)
