-- `calls_find::find_on`: arena and table, then the call by the chains that were left.
use Rattle.std.proofs.lemmas.Result.{err_from_is_err_and}
use Rattle.base.specs.Out.{ill}
use Rattle.base.proofs.Tells.{number-ne, number-pos}
use mathlib.Core.Path.{refl}
use mathlib.Core.Path.{sym}
use Rattle.base.proofs.Outs.{went-has, went-not}
use Rattle.sound.proofs.Chains.{length-firsts}
use Rattle.mem.specs.Mem.{table_in}
use Rattle.calls.proofs.Asks.{blank}
use Rattle.calls_find.proofs.Finds.{find-refused}
use Rattle.calls_find.proofs.find_on.Goals as goal

pub admit-requires : goal.admit-requires
admit-requires c = (blank, c.requires)

pub returns-in_err-admit : goal.returns-in_err-admit
returns-in_err-admit c =
    let p = err_from_is_err_and c.from_residual.result c.from_residual.ensures.1 in
    let s = c.args in
    let e = c.in_err-admit.field-0.0 in
    rw (p.1, p.2) (ill (number-pos e) (find-refused s.arena.now (table_in s.mem.now) s.who s.h s.name.now (went-not c.in_err-admit.ensures (number-ne e))))

pub slice_bounds-find_led-end : goal.slice_bounds-find_led-end
slice_bounds-find_led-end c = sym (length-firsts c.admit.new.chains c.admit.auto.chains)

pub find_led-requires : goal.find_led-requires
find_led-requires c = went-has c.in_ok-admit.ensures refl
