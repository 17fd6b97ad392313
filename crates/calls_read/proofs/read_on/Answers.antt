-- `calls_read::read_on`: arena and table, then the call by the chains that were left.
use mathlib.Core.Path.{refl, sym}
use lib.ListN.{length}
use Rattle.base.proofs.Outs.{went-has, went-not}
use Rattle.std.proofs.lemmas.Result.{err_from_is_err_and}
use Rattle.base.proofs.Tells.{number-ne}
use Rattle.sound.proofs.Chains.{length-firsts}
use Rattle.mem.specs.Mem.{table_in}
use Rattle.calls.proofs.Asks.{blank}
use Rattle.calls.proofs.Outputs.{lays-not}
use Rattle.calls_read.proofs.Bytes.{read-unadmitted}
use Rattle.calls_read.proofs.read_on.Goals as goal

pub admit-requires : goal.admit-requires
admit-requires c = (blank, c.requires)

pub returns-in_err-admit : goal.returns-in_err-admit
returns-in_err-admit c =
    let s = c.args in
    let e = c.in_err-admit.field-0.0 in
    let p = err_from_is_err_and c.from_residual.result c.from_residual.ensures.1 in
    rw (p.1, p.2) (lays-not e s.out.now s.out.now (read-unadmitted s.arena.now (table_in s.mem.now) s.who s.h s.place (length s.out.now) (went-not c.in_err-admit.ensures (number-ne e))) refl)

pub slice_bounds-read_led-end : goal.slice_bounds-read_led-end
slice_bounds-read_led-end c = sym (length-firsts c.admit.new.chains c.admit.auto.chains)

pub read_led-requires : goal.read_led-requires
read_led-requires c = went-has c.in_ok-admit.ensures refl
