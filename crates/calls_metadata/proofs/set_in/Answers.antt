-- `calls_metadata::set_in`: the handle's row, with what was set.
use Rattle.std.proofs.lemmas.Result.{err_from_is_err_and}
use Rattle.base.proofs.Tells.{number-ne}
use mathlib.Core.Path.{refl}
use mathlib.Core.Path.{sym, ◌∙◌, ap}
use mathlib.Core.Bool.{true}
use Rattle.base.specs.Out.{done, well, ill}
use Rattle.base.proofs.Outs.{went-has, above_zero}
use Rattle.structs.specs.declared.DiskINode.{DiskINode}
use Rattle.table.specs.Table.{row_at, take_row}
use Rattle.sefs.specs.Read.{changed}
use Rattle.mem.specs.Mem.{table_in}
use Rattle.calls_metadata.proofs.Tells.{set-stop, set_next}
use Rattle.calls_metadata.proofs.set_in.Goals as goal

pub returns-in_err-row : goal.returns-in_err-row
returns-in_err-row c =
    let p = err_from_is_err_and c.from_residual.result c.from_residual.ensures.1 in
    rw (p.1, p.2) (let a = c.args in
    ill (above_zero _ (number-ne c.in_err-row.field-0.0)) (set-stop (table_in a.mem.now) a.who a.h c.in_err-row.ensures a.mode a.uid a.gid a.atime a.mtime a.ctime (number-ne c.in_err-row.field-0.0)))

pub rec_at-rec-requires : goal.rec_at-rec-requires
rec_at-rec-requires c = (c.requires, went-has c.in_ok-row.ensures refl)

pub set_rec-requires : goal.set_rec-requires
set_rec-requires c = (c.requires, went-has c.in_ok-row.ensures refl)

pub returns : goal.returns
returns c =
    let a = c.args in
    let t = table_in a.mem.now in
    let i = c.in_ok-row.row in
    let e = c.changed.ensures ∙ ap (λ (w : DiskINode). changed w a.mode a.uid a.gid a.atime a.mtime a.ctime) c.rec_at-rec.ensures in
    well (set_next t a.who a.h c.in_ok-row.ensures a.mode a.uid a.gid a.atime a.mtime a.ctime refl ∙ ap done (sym (c.set_rec.ensures.table ∙ ap (λ (w : DiskINode). take_row t i (row_at t i).id w true) e))) tt
