-- `calls_move::open_two`: one node, then the other.
use mathlib.Core.Path.{refl}
use Rattle.std.proofs.lemmas.Result.{err_from_is_err_and}
use Rattle.base.specs.Out.{ill}
use Rattle.base.proofs.Outs.{went-has, went-not}
use Rattle.base.proofs.Tells.{number-ne, number-pos}
use Rattle.calls_move.proofs.Decisions.{two-stop, two-next}
use Rattle.calls_move.proofs.open_two.Goals as goal

pub returns-in_err-gone : goal.returns-in_err-gone
returns-in_err-gone c =
    let p = err_from_is_err_and c.from_residual.result c.from_residual.ensures.1 in
    rw (p.1, p.2) (two-stop c.args.arena.now c.args.mem.now c.get_node.new.mem c.args.new c.args.was _ c.in_err-gone.ensures _ (number-ne c.in_err-gone.field-0.0))

pub get_node-requires-2 : goal.get_node-requires-2
get_node-requires-2 c = record { led = c.requires.led; whole = (went-has c.in_ok-gone.ensures refl).0 }

pub returns-in_err-moved : goal.returns-in_err-moved
returns-in_err-moved c =
    let e = c.in_err-moved.field-0.0 in
    let p = err_from_is_err_and c.from_residual-in_err-moved.result c.from_residual-in_err-moved.ensures.1 in
    rw (p.1, p.2) (ill (number-pos e) (went-not (two-next c.args.arena.now c.args.mem.now c.get_node.new.mem c.args.new c.args.was _ c.in_ok-gone.ensures c.get_node-2.new.mem _ refl c.in_err-moved.ensures) (number-ne e)))

pub returns : goal.returns
returns c =
    two-next c.args.arena.now c.args.mem.now c.get_node.new.mem c.args.new c.args.was _ c.in_ok-gone.ensures c.get_node-2.new.mem _ refl c.in_ok-moved.ensures
