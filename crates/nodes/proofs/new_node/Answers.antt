-- `nodes::new_node`: an id, then the node.
use Rattle.std.proofs.lemmas.Result.{err_from_is_err_and}
use Rattle.base.proofs.Tells.{number-ne}
use mathlib.Core.Path.{refl}
use native.Mathlib.Omega.{arith}
use Rattle.base.proofs.Outs.{went-has}
use Rattle.mem.specs.State.{fs_of}
use Rattle.nodes.proofs.Nodes.{new-stop, new-next}
use Rattle.nodes.proofs.new_node.Goals as goal

pub returns-in_err-id : goal.returns-in_err-id
returns-in_err-id c =
    let p = err_from_is_err_and c.from_residual.result c.from_residual.ensures.1 in
    rw (p.1, p.2) (new-stop (fs_of c.args.arena.now c.args.work.now c.args.mem.now) c.args.kind c.args.mode c.args.time c.args.file _ _ _ (number-ne c.in_err-id.field-0.0) c.in_err-id.ensures)

pub make_node-requires : goal.make_node-requires
make_node-requires c =
    let q = went-has c.in_ok-id.ensures refl in
    (record { fine = q.fine; whole = q.whole }, omega (arith, q.room, c.requires.1))

pub returns : goal.returns
returns c =
    new-next (fs_of c.args.arena.now c.args.work.now c.args.mem.now) c.args.kind c.args.mode c.args.time c.args.file c.args.arena.now c.args.work.now c.alloc_block.new.work c.make_node.new.work c.alloc_block.new.mem c.make_node.new.mem _ _ _ _ refl c.in_ok-id.ensures c.make_node.ensures
