-- `calls_metadata::set_on`: arena and table, then the rest.
use Rattle.std.proofs.lemmas.Result.{err_from_is_err_and}
use Rattle.base.proofs.Tells.{number-ne}
use mathlib.Core.Path.{refl}
use Rattle.base.specs.Out.{ill}
use Rattle.base.proofs.Outs.{went-is, went-not, above_zero}
use Rattle.mem.specs.Mem.{table_in}
use Rattle.calls.proofs.General.{went-as}
use Rattle.calls_metadata.proofs.Tells.{set-refused, set-admitted}
use Rattle.calls_metadata.proofs.set_on.Goals as goal

pub returns-in_err-admitted : goal.returns-in_err-admitted
returns-in_err-admitted c =
    let p = err_from_is_err_and c.from_residual.result c.from_residual.ensures.1 in
    rw (p.1, p.2) (let a = c.args in
    ill (above_zero _ (number-ne c.in_err-admitted.field-0.0)) (set-refused a.arena.now (table_in a.mem.now) a.who a.h a.mode a.uid a.gid a.atime a.mtime a.ctime (went-not c.in_err-admitted.ensures (number-ne c.in_err-admitted.field-0.0))))

pub returns : goal.returns
returns c =
    let a = c.args in
    went-as (set-admitted a.arena.now (table_in a.mem.now) a.who a.h a.mode a.uid a.gid a.atime a.mtime a.ctime (went-is c.in_ok-admitted.ensures refl)) c.set_in.ensures
