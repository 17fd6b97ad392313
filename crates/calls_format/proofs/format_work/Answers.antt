-- `calls_format::format_work`: the metadata file, the root, what it holds.
use Rattle.std.proofs.lemmas.Result.{err_from_is_err_and}
use Rattle.base.proofs.Tells.{number-ne}
use mathlib.Core.Path.{refl}
use native.Mathlib.Omega.{arith}
use Rattle.base.proofs.Outs.{went-has}
use Rattle.overlay.proofs.Chains.{did-well}
use Rattle.folders.proofs.States.{still-ready}
use Rattle.calls_format.proofs.Formats.{work-stop, work-node, work-done}
use Rattle.calls_format.proofs.format_work.Goals as goal

pub returns-in_err-make_meta : goal.returns-in_err-make_meta
returns-in_err-make_meta c =
    let p = err_from_is_err_and c.from_residual.result c.from_residual.ensures.1 in
    rw (p.1, p.2) (work-stop _ c.args.file c.args.time c.in_err-make_meta.ensures _ _ (number-ne c.in_err-make_meta.field-0.0))

pub new_node-requires : goal.new_node-requires
new_node-requires c =
    let d = did-well c.in_ok-make_meta.ensures refl in
    (record { fine = d.fine; whole = c.requires.0.whole }, omega (arith, d.room, c.requires.1))

pub returns-in_err-row : goal.returns-in_err-row
returns-in_err-row c =
    let p = err_from_is_err_and c.from_residual-in_err-row.result c.from_residual-in_err-row.ensures.1 in
    rw (p.1, p.2) (work-node _ c.args.file c.args.time c.in_ok-make_meta.ensures refl c.in_err-row.ensures _ _ (number-ne c.in_err-row.field-0.0))

pub fill_root-requires : goal.fill_root-requires
fill_root-requires c =
    let d = did-well c.in_ok-make_meta.ensures refl in
    let q = went-has c.in_ok-row.ensures refl in
    (still-ready q.0, (omega (arith, d.room, q.0.room, c.requires.1), q.1))

pub returns : goal.returns
returns c =
    work-done _ c.args.file c.args.time c.in_ok-make_meta.ensures refl c.in_ok-row.ensures refl c.fill_root.ensures
