-- `calls_metadata::metadata_in`: the handle's row, then what it tells.
use mathlib.Core.Path.{refl, sym, ◌∙◌, ap}
use Rattle.std.proofs.lemmas.Result.{err_from_is_err_and}
use Rattle.base.proofs.Tells.{number-ne}
use Rattle.base.proofs.Outs.{went-has}
use Rattle.table.specs.declared.Row.{Row}
use Rattle.mem.specs.Mem.{table_in}
use Rattle.calls_metadata.specs.Tell.{told}
use Rattle.calls_metadata.proofs.Tells.{metadata-stop, metadata-next}
use Rattle.calls_metadata.proofs.metadata_in.Goals as goal

pub returns-in_err-i : goal.returns-in_err-i
returns-in_err-i c =
    let s = c.args in
    let p = err_from_is_err_and c.from_residual.result c.from_residual.ensures.1 in
    rw (p.1, p.2) (sym (metadata-stop (table_in s.mem.now) s.who s.h c.in_err-i.ensures (number-ne c.in_err-i.field-0.0)))

pub row_at-row-requires : goal.row_at-row-requires
row_at-row-requires c = (c.requires, went-has c.in_ok-i.ensures refl)

pub returns : goal.returns
returns c =
    let s = c.args in
    c.tell.ensures
    ∙ ap (λ (w : Row). told w.id w.rec) c.row_at-row.ensures
    ∙ sym (metadata-next (table_in s.mem.now) s.who s.h c.in_ok-i.ensures refl)
