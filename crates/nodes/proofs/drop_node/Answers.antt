-- `nodes::drop_node`: its three steps.
use Rattle.std.proofs.lemmas.Result.{err_from_is_err_and}
use Rattle.base.proofs.Tells.{number-ne}
use Rattle.base.specs.Told.{number}
use mathlib.Core.Path.{refl}
use native.Mathlib.Omega.{arith}
use Rattle.base.proofs.Outs.{went-has}
use Rattle.nodes.proofs.Nodes.{drop-stop, drop_stuck, drop-done}
use Rattle.nodes.proofs.drop_node.Goals as goal

pub returns-in_err-sync_row : goal.returns-in_err-sync_row
returns-in_err-sync_row c =
    let p = err_from_is_err_and c.from_residual.result c.from_residual.ensures.1 in
    rw (p.1, p.2) (drop-stop c.args.arena.now c.args.work.now c.sync_row.new.work c.args.mem.now c.sync_row.new.mem c.args.i (number c.in_err-sync_row.field-0.0) c.in_err-sync_row.ensures _ _ (number-ne c.in_err-sync_row.field-0.0))

pub free_unlinked-requires : goal.free_unlinked-requires
free_unlinked-requires c =
    let q = went-has c.in_ok-sync_row.ensures refl in
    (record { fine = q.fine; whole = q.whole }, (omega (arith, q.room, c.requires.1.0), c.requires.1.1))

pub returns-in_err-free_unlinked : goal.returns-in_err-free_unlinked
returns-in_err-free_unlinked c =
    let p = err_from_is_err_and c.from_residual-in_err-free_unlinked.result c.from_residual-in_err-free_unlinked.ensures.1 in
    rw (p.1, p.2) (drop_stuck c.args.arena.now c.args.work.now c.sync_row.new.work c.args.mem.now c.sync_row.new.mem c.args.i 0 c.in_ok-sync_row.ensures c.free_unlinked.new.work c.free_unlinked.new.mem (number c.in_err-free_unlinked.field-0.0) c.in_err-free_unlinked.ensures _ _ refl (number-ne c.in_err-free_unlinked.field-0.0))

pub clear_row-requires : goal.clear_row-requires
clear_row-requires c = ((went-has c.in_ok-free_unlinked.ensures refl).whole, c.requires.1.1)

pub returns : goal.returns
returns c =
    drop-done c.args.arena.now c.args.work.now c.sync_row.new.work c.args.mem.now c.sync_row.new.mem c.args.i 0 c.in_ok-sync_row.ensures c.free_unlinked.new.work c.free_unlinked.new.mem 0 c.in_ok-free_unlinked.ensures c.clear_row.new.mem refl refl c.clear_row.ensures
