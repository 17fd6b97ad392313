-- `chains::slots::slot_bytes`: the read, then the test of the type.
use Rattle.std.proofs.lemmas.Result.{err_from_is_err_and}
use Rattle.base.proofs.Tells.{number-ne}
use mathlib.Core.Path.{refl}
use native.Mathlib.Omega.{arith}
use Rattle.chains.proofs.Ends.{read-sized}
use Rattle.chains.proofs.Lookups.{bytes-stop, bytes-stuck, bytes-done}
use Rattle.chains.proofs.slots.slot_bytes.Goals as goal

pub returns-in_err-read_below : goal.returns-in_err-read_below
returns-in_err-read_below c =
    let p = err_from_is_err_and c.from_residual.result c.from_residual.ensures.1 in
    rw (p.1, p.2) (bytes-stop _ c.args.rec c.args.k _ _ (number-ne c.in_err-read_below.field-0.0) (read-sized _ _ _ c.requires.end_value.1.1.1 c.in_err-read_below.ensures))

pub returns-then-u32_at-gt4 : goal.returns-then-u32_at-gt4
returns-then-u32_at-gt4 c =
    bytes-stuck _ c.args.rec c.args.k _ _ (read-sized _ _ _ c.requires.end_value.1.1.1 c.in_ok-read_below.ensures) refl (omega (arith, c.u32_at.ensures, c.if-u32_at-gt4.true))

pub returns : goal.returns
returns c =
    bytes-done _ c.args.rec c.args.k (read-sized _ _ _ c.requires.end_value.1.1.1 c.in_ok-read_below.ensures) refl (omega (arith, c.u32_at.ensures, c.if-u32_at-gt4.false))
