-- `calls_remove::remove_node`: the removal, then the record; 18 blocks and 3.
use Rattle.std.proofs.lemmas.Result.{err_from_is_err_and}
use Rattle.base.proofs.Tells.{number-ne}
use mathlib.Core.Path.{refl}
use Rattle.base.proofs.Outs.{went-has}
use Rattle.calls_remove.proofs.Parts.{node-stop, node-next}
use native.Mathlib.Omega.{arith}
use Rattle.calls_remove.proofs.remove_node.Goals as goal

pub dirent_node_remove-requires : goal.dirent_node_remove-requires
dirent_node_remove-requires c =
    (c.requires.0, (omega (arith, c.requires.1.0), c.requires.1.1))

pub returns-in_err-dirent_node_remove : goal.returns-in_err-dirent_node_remove
returns-in_err-dirent_node_remove c =
    let p = err_from_is_err_and c.from_residual.result c.from_residual.ensures.1 in
    rw (p.1, p.2) (node-stop _ _ _ _ _ _ _ _ _ c.in_err-dirent_node_remove.ensures (number-ne c.in_err-dirent_node_remove.field-0.0))

pub sync_row-requires : goal.sync_row-requires
sync_row-requires c =
    let k = went-has c.in_ok-dirent_node_remove.ensures refl in
    (record { fine = k.fine; whole = k.whole }, (omega (arith, k.room, c.requires.1.0), c.requires.1.1.0))

pub returns : goal.returns
returns c =
    node-next _ _ _ _ _ _ _ _ _ c.in_ok-dirent_node_remove.ensures _ _ _ refl c.sync_row.ensures
