-- `calls::by_two`: one handle after the other.
use mathlib.Core.Path.{refl}
use Rattle.std.proofs.lemmas.Result.{err_from_is_err_and}
use Rattle.base.specs.Out.{ill}
use Rattle.base.proofs.Outs.{went-not}
use Rattle.base.proofs.Tells.{number-ne, number-pos}
use Rattle.mem.specs.Mem.{table_in}
use Rattle.calls.proofs.Asks.{two-not, two-by}
use Rattle.calls.proofs.by_two.Goals as goal

pub returns-in_err-row : goal.returns-in_err-row
returns-in_err-row c =
    let s = c.args in
    let p = err_from_is_err_and c.from_residual.result c.from_residual.ensures.1 in
    rw (p.1, p.2) (two-not (table_in s.mem.now) s.who s.h s.k c.in_err-row.ensures _ _ (number-ne c.in_err-row.field-0.0))

pub returns-in_err-other : goal.returns-in_err-other
returns-in_err-other c =
    let s = c.args in
    let e = c.in_err-other.field-0.0 in
    let p = err_from_is_err_and c.from_residual-in_err-other.result c.from_residual-in_err-other.ensures.1 in
    rw (p.1, p.2) (ill (number-pos e) (went-not (two-by (table_in s.mem.now) s.who s.h s.k c.in_ok-row.ensures refl c.in_err-other.ensures) (number-ne e)))

pub returns : goal.returns
returns c =
    let s = c.args in
    two-by (table_in s.mem.now) s.who s.h s.k c.in_ok-row.ensures refl c.in_ok-other.ensures
