-- `calls_find::root_led`: who asks, then node 2, by the chains.
use Rattle.std.proofs.lemmas.Result.{err_from_is_err_and}
use Rattle.base.specs.Out.{ill}
use Rattle.base.proofs.Tells.{number-ne, number-pos}
use mathlib.Core.Path.{refl}
use Rattle.mem.specs.Mem.{table_in}
use Rattle.calls.proofs.Asks.{admitted}
use Rattle.calls.proofs.General.{went-as}
use Rattle.calls_find.proofs.Finds.{root-not, root-next}
use Rattle.calls_find.proofs.root_led.Goals as goal

pub returns-in_err-an_owner : goal.returns-in_err-an_owner
returns-in_err-an_owner c =
    let p = err_from_is_err_and c.from_residual.result c.from_residual.ensures.1 in
    let e = c.in_err-an_owner.field-0.0 in
    rw (p.1, p.2) (ill (number-pos e) (root-not c.args.arena.now (table_in c.args.mem.now) c.args.who (admitted c.requires) c.in_err-an_owner.ensures (number-ne e)))

pub returns : goal.returns
returns c =
    went-as (root-next c.args.arena.now (table_in c.args.mem.now) c.args.who (admitted c.requires) c.in_ok-an_owner.ensures refl) c.give_node.ensures
