-- `nodes::free_node`: the id, then the rest.
use Rattle.std.proofs.lemmas.Result.{err_from_is_err_and}
use Rattle.base.proofs.Tells.{number-ne}
use Rattle.base.specs.Told.{number}
use mathlib.Core.Path.{refl}
use Rattle.base.proofs.Outs.{went-has}
use Rattle.nodes.proofs.Nodes.{free-stop, free-done}
use Rattle.nodes.proofs.free_node.Goals as goal

pub returns-in_err-free_block : goal.returns-in_err-free_block
returns-in_err-free_block c =
    let p = err_from_is_err_and c.from_residual.result c.from_residual.ensures.1 in
    rw (p.1, p.2) (free-stop c.args.arena.now c.args.work.now c.args.mem.now c.free_block.new.mem c.args.i (number c.in_err-free_block.field-0.0) (rw c.id_at.ensures at (c.in_err-free_block.ensures c.args.arena.now c.args.work.now)) _ _ (number-ne c.in_err-free_block.field-0.0))

pub remove_node-requires : goal.remove_node-requires
remove_node-requires c =
    (record { fine = c.requires.0.fine; whole = went-has (c.in_ok-free_block.ensures c.args.arena.now c.args.work.now) refl }, c.requires.1)

pub returns : goal.returns
returns c =
    free-done c.args.arena.now c.args.work.now c.args.mem.now c.free_block.new.mem c.args.i 0 (rw c.id_at.ensures at (c.in_ok-free_block.ensures c.args.arena.now c.args.work.now)) c.remove_node.new.work _ refl c.remove_node.ensures
