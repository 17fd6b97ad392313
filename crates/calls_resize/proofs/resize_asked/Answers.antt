-- `calls_resize::resize_asked`: arena and table, then the call by the chains that were left.
use Rattle.std.proofs.lemmas.Result.{err_from_is_err_and}
use Rattle.base.proofs.Tells.{number-ne}
use mathlib.Core.Path.{refl}
use mathlib.Core.Path.{sym}
use Rattle.base.proofs.Outs.{went-has, went-not}
use Rattle.sound.proofs.Chains.{length-firsts}
use Rattle.mem.specs.Mem.{table_in}
use Rattle.calls.proofs.Asks.{blank}
use Rattle.sizes.proofs.Asked.{end-unadmitted}
use Rattle.calls_resize.proofs.resize_asked.Goals as goal

pub admit-requires : goal.admit-requires
admit-requires c = (blank, c.requires)

pub returns-in_err-admit : goal.returns-in_err-admit
returns-in_err-admit c =
    let p = err_from_is_err_and c.from_residual.result c.from_residual.ensures.1 in
    rw (p.1, p.2) (let s = c.args in
    end-unadmitted s.arena.now (table_in s.mem.now) s.who s.h s.n _ _ (number-ne c.in_err-admit.field-0.0) (went-not c.in_err-admit.ensures (number-ne c.in_err-admit.field-0.0)))

pub slice_bounds-resize_led-end : goal.slice_bounds-resize_led-end
slice_bounds-resize_led-end c = sym (length-firsts c.admit.new.chains c.admit.auto.chains)

pub resize_led-requires : goal.resize_led-requires
resize_led-requires c = went-has c.in_ok-admit.ensures refl
