-- `calls_format::make_meta`: a head, then its length.
use Rattle.std.proofs.lemmas.Result.{err_from_is_err_and}
use Rattle.base.proofs.Tells.{number-ne}
use mathlib.Core.Path.{refl}
use native.Mathlib.Omega.{arith}
use Rattle.overlay.proofs.Chains.{did-well}
use Rattle.calls_format.proofs.Formats.{meta-stop, meta-done}
use Rattle.calls_format.proofs.make_meta.Goals as goal

pub returns-in_err-make : goal.returns-in_err-make
returns-in_err-make c =
    let p = err_from_is_err_and c.from_residual.result c.from_residual.ensures.1 in
    rw (p.1, p.2) (meta-stop c.in_err-make.ensures _ (number-ne c.in_err-make.field-0.0))

pub cut-requires : goal.cut-requires
cut-requires c =
    let d = did-well c.in_ok-make.ensures refl in record { fine = (d.fine, omega (arith, d.room, c.requires.1)); name_len = refl }

pub returns : goal.returns
returns c = meta-done c.in_ok-make.ensures refl c.cut.ensures
