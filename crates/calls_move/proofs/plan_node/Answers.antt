-- `calls_move::plan_node`: both nodes, and what is asked of them.
use mathlib.Core.Path.{refl}
use lib.Dec.{eqb}
use Rattle.base.specs.Search.{pick}
use Rattle.std.proofs.lemmas.Result.{err_from_is_err_and}
use Rattle.base.proofs.Tells.{number-ne}
use Rattle.base.proofs.Outs.{went-has}
use Rattle.steps.proofs.Ends.{rest-off, rest-not}
use Rattle.calls_move.proofs.Decisions.{node-stop, node-goes}
use Rattle.calls_move.proofs.plan_node.Goals as goal

pub returns-in_err-gone : goal.returns-in_err-gone
returns-in_err-gone c =
    let p = err_from_is_err_and c.from_residual.result c.from_residual.ensures.1 in
    rw (p.1, p.2) (λ old name e. node-stop c.args.arena.now c.args.mem.now c.open_two.new.mem c.args.i
    c.args.j old name c.args.k c.args.new c.args.was _ _ c.in_err-gone.ensures (number-ne c.in_err-gone.field-0.0))

pub ask_two-requires : goal.ask_two-requires
ask_two-requires c =
    let p = went-has c.in_ok-gone.ensures refl in record { led = c.requires.led; whole = (p.0, (c.requires.whole.1.0, (c.requires.whole.1.1, (p.1.1, p.1.0)))) }

pub returns-in_err-ask_two : goal.returns-in_err-ask_two
returns-in_err-ask_two c =
    let z = number-ne c.in_err-ask_two.field-0.0 in
    let p = err_from_is_err_and c.from_residual-in_err-ask_two.result c.from_residual-in_err-ask_two.ensures.1 in
    rw (p.1, p.2) (λ old name e. rest-off z (rest-not (node-goes c.args.arena.now c.args.mem.now c.open_two.new.mem c.args.i c.args.j old name c.args.k c.args.new c.args.was _ _ c.in_ok-gone.ensures {Q = Unit} e (pick (eqb c.args.was c.args.new) 0 2) refl
    refl tt (c.in_err-ask_two.ensures _ old name e c.args.k)) z))

pub returns : goal.returns
returns c =
    let p = went-has c.in_ok-gone.ensures refl in
    λ old name e. node-goes c.args.arena.now c.args.mem.now c.open_two.new.mem c.args.i c.args.j old name c.args.k c.args.new c.args.was _ _ c.in_ok-gone.ensures e _ refl
    c.way_onto.ensures (record { whole = p.0; source = c.requires.whole.1.0; target = c.requires.whole.1.1; gone = p.1.0; moved = p.1.1 }) (c.in_ok-ask_two.ensures _ old name e c.args.k)
