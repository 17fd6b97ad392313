-- `calls_write::write_in`: what is asked first, and the stores.
use Rattle.std.proofs.lemmas.Result.{err_from_is_err_and}
use Rattle.base.proofs.Tells.{number-ne}
use mathlib.Core.Path.{refl}
use Rattle.steps.proofs.Ends.{rest-is, rest_has, rest-not, ended_is, ended-refused}
use Rattle.calls_write.proofs.write_in.Goals as goal

pub returns-in_err-s : goal.returns-in_err-s
returns-in_err-s c =
    let p = err_from_is_err_and c.from_residual.result c.from_residual.ensures.1 in
    rw (p.1, p.2) (ended-refused (number-ne c.in_err-s.field-0.0) (rest-not (c.in_err-s.ensures c.args.src.now refl) (number-ne c.in_err-s.field-0.0)) refl)

pub write_row-requires : goal.write_row-requires
write_row-requires c = (c.requires.0, rest_has (c.in_ok-s.ensures c.args.src.now refl) refl)

pub returns : goal.returns
returns c = ended_is (rest-is (c.in_ok-s.ensures c.args.src.now refl) refl) c.write_row.ensures
