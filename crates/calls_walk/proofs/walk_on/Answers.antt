-- `calls_walk::walk_on`: the tests of arena and table, and then the call by the chains that they left.
use Rattle.std.proofs.lemmas.Result.{err_from_is_err_and}
use Rattle.base.specs.Out.{ill}
use Rattle.base.proofs.Tells.{number-ne, number-pos}
use mathlib.Core.Path.{refl}
use Rattle.calls_walk.proofs.Runs.{call-refused}
use Rattle.mem.specs.Mem.{table_in}
use mathlib.Core.Path.{sym}
use Rattle.base.proofs.Outs.{went-has, went-not}
use Rattle.sound.proofs.Chains.{length-firsts}
use Rattle.calls.proofs.Asks.{blank}
use Rattle.calls_walk.proofs.walk_on.Goals as goal

pub admit-requires : goal.admit-requires
admit-requires c = (blank, c.requires)

pub returns-in_err-admit : goal.returns-in_err-admit
returns-in_err-admit c =
    let e = c.in_err-admit.field-0.0 in
    let q = call-refused c.args.arena.now (table_in c.args.mem.now) c.args.who c.args.h c.args.path.now c.args.links.now (went-not c.in_err-admit.ensures (number-ne e)) in
    let p = err_from_is_err_and c.from_residual.result c.from_residual.ensures.1 in
    rw (p.1, p.2) (record { went = ill (number-pos e) q.0; links_after = q.1 })

pub slice_bounds-walk_led-end : goal.slice_bounds-walk_led-end
slice_bounds-walk_led-end c = sym (length-firsts c.admit.new.chains c.admit.auto.chains)

pub walk_led-requires : goal.walk_led-requires
walk_led-requires c = went-has c.in_ok-admit.ensures refl
