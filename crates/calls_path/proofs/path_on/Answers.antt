-- `calls_path::path_on`: the tests of arena and table, and then the call by the chains that they left.
use mathlib.Core.Path.{refl, sym}
use Rattle.std.proofs.lemmas.Result.{err_from_is_err_and}
use Rattle.base.proofs.Tells.{number-ne}
use Rattle.base.proofs.Outs.{went-has, went-not}
use Rattle.sound.proofs.Chains.{length-firsts}
use Rattle.mem.specs.Mem.{table_in}
use Rattle.calls.proofs.Asks.{blank}
use Rattle.calls_path.proofs.Answers.{path-unadmitted}
use Rattle.calls_path.proofs.path_on.Goals as goal

pub admit-requires : goal.admit-requires
admit-requires c = (blank, c.requires)

pub returns-in_err-admit : goal.returns-in_err-admit
returns-in_err-admit c =
    let s = c.args in
    let e = c.in_err-admit.field-0.0 in
    let p = err_from_is_err_and c.from_residual.result c.from_residual.ensures.1 in
    rw (p.1, p.2) (record { lays = path-unadmitted s.arena.now (table_in s.mem.now) s.who s.h e s.out.now (went-not c.in_err-admit.ensures (number-ne e)); mem_unchanged = (refl, c.requires) })

pub slice_bounds-path_led-end : goal.slice_bounds-path_led-end
slice_bounds-path_led-end c = sym (length-firsts c.admit.new.chains c.admit.auto.chains)

pub path_led-requires : goal.path_led-requires
path_led-requires c = went-has c.in_ok-admit.ensures refl

pub returns : goal.returns
returns c = record { lays = c.path_led.ensures.lays; mem_unchanged = c.path_led.ensures.mem_unchanged }
