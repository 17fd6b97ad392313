-- `calls_fallocate::ask_record`: the type, the end, and what the mode asks.
use Rattle.std.proofs.lemmas.Result.{err_from_is_err_and}
use Rattle.base.proofs.Tells.{number-ne}
use mathlib.Core.Path.{refl}
use mathlib.Core.Path.{◌∙◌}
use Rattle.calls_fallocate.proofs.Questions.{record-stop, end-stop, fits_last, end-range}
use Rattle.calls_fallocate.proofs.ask_record.Goals as goal

pub returns-in_err-plain_file : goal.returns-in_err-plain_file
returns-in_err-plain_file c =
    let p = err_from_is_err_and c.from_residual.result c.from_residual.ensures.1 in
    rw (p.1, p.2) (record-stop c.args.rec c.args.mode c.args.from c.args.len _ c.in_err-plain_file.ensures (number-ne c.in_err-plain_file.field-0.0))

pub returns-in_err-not_too_big : goal.returns-in_err-not_too_big
returns-in_err-not_too_big c =
    let p = err_from_is_err_and c.from_residual-in_err-not_too_big.result c.from_residual-in_err-not_too_big.ensures.1 in
    rw (p.1, p.2) (end-stop c.args.rec c.args.mode c.args.from c.args.len _ c.in_ok-plain_file.ensures refl _ c.in_err-not_too_big.ensures (number-ne c.in_err-not_too_big.field-0.0))

pub fits_mode-requires : goal.fits_mode-requires
fits_mode-requires c = end-range _ _ c.in_ok-not_too_big.ensures refl

pub returns : goal.returns
returns c =
    c.fits_mode.ensures
    ∙ fits_last c.args.rec c.args.mode c.args.from c.args.len _ c.in_ok-plain_file.ensures
    refl _ c.in_ok-not_too_big.ensures refl
