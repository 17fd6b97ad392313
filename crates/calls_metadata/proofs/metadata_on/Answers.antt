-- `calls_metadata::metadata_on`: arena and table, then the rest.
use mathlib.Core.Path.{refl, sym, ◌∙◌}
use Rattle.std.proofs.lemmas.Result.{err_from_is_err_and}
use Rattle.base.proofs.Tells.{number-ne}
use Rattle.base.proofs.Outs.{went-is, went-not}
use Rattle.mem.specs.Mem.{table_in}
use Rattle.calls_metadata.proofs.Tells.{metadata-refused, metadata-admitted}
use Rattle.calls_metadata.proofs.metadata_on.Goals as goal

pub returns-in_err-admitted : goal.returns-in_err-admitted
returns-in_err-admitted c =
    let s = c.args in
    let p = err_from_is_err_and c.from_residual.result c.from_residual.ensures.1 in
    rw (p.1, p.2) (sym (metadata-refused s.arena.now (table_in s.mem.now) s.who s.h (went-not c.in_err-admitted.ensures (number-ne c.in_err-admitted.field-0.0))))

pub returns : goal.returns
returns c =
    let s = c.args in
    c.metadata_in.ensures ∙ sym (metadata-admitted s.arena.now (table_in s.mem.now) s.who s.h (went-is c.in_ok-admitted.ensures refl))
