-- `removals::pick_id`: the node, and whether it goes.
use Rattle.std.proofs.lemmas.Result.{err_from_is_err_and}
use Rattle.base.proofs.Tells.{number-ne}
use mathlib.Core.Path.{refl}
use Rattle.base.proofs.Outs.{went-has}
use Rattle.mem.specs.State.{fs_at}
use Rattle.removals.proofs.Parts.{id-stop, id-kept, id_next}
use Rattle.removals.proofs.pick_id.Goals as goal

pub returns-in_err-node : goal.returns-in_err-node
returns-in_err-node c =
    let p = err_from_is_err_and c.from_residual.result c.from_residual.ensures.1 in
    rw (p.1, p.2) (id-stop c.args.folder (fs_at c.args.arena.now c.args.mem.now) (fs_at c.args.arena.now c.get_node.new.mem) c.args.i c.args.id c.args.k _ _ c.in_err-node.ensures (number-ne c.in_err-node.field-0.0))

pub ask_node-requires : goal.ask_node-requires
ask_node-requires c =
    went-has c.in_ok-node.ensures refl

pub returns-in_err-ask_node : goal.returns-in_err-ask_node
returns-in_err-ask_node c =
    let p = err_from_is_err_and c.from_residual-in_err-ask_node.result c.from_residual-in_err-ask_node.ensures.1 in
    rw (p.1, p.2) (id-kept c.args.folder (fs_at c.args.arena.now c.args.mem.now) (fs_at c.args.arena.now c.get_node.new.mem) c.args.i c.args.id c.args.k _ _ c.in_ok-node.ensures refl _ c.in_err-ask_node.ensures (number-ne c.in_err-ask_node.field-0.0))

pub returns : goal.returns
returns c =
    let p = went-has c.in_ok-node.ensures refl in
    id_next c.args.folder (fs_at c.args.arena.now c.args.mem.now) (fs_at c.args.arena.now c.get_node.new.mem) c.args.i c.args.id c.args.k _ _ c.in_ok-node.ensures refl _ c.in_ok-ask_node.ensures refl (p.0, (c.requires.whole.1, p.1))
