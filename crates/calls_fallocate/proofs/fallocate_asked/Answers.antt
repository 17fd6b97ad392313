-- `calls_fallocate::fallocate_asked`: arena and table, then the call by the chains that were left.
use Rattle.std.proofs.lemmas.Result.{err_from_is_err_and}
use Rattle.base.proofs.Tells.{number-ne}
use mathlib.Core.Path.{refl}
use mathlib.Core.Path.{sym}
use Rattle.base.proofs.Outs.{went-has, went-not}
use Rattle.sound.proofs.Chains.{length-firsts}
use Rattle.mem.specs.Mem.{table_in}
use Rattle.calls.proofs.Asks.{blank}
use Rattle.calls_fallocate.proofs.Questions.{ranged-off, call-unadmitted}
use Rattle.calls_fallocate.proofs.fallocate_asked.Goals as goal

pub admit-requires : goal.admit-requires
admit-requires c = (blank, c.requires.whole)

pub returns-in_err-admit : goal.returns-in_err-admit
returns-in_err-admit c =
    let p = err_from_is_err_and c.from_residual.result c.from_residual.ensures.1 in
    rw (p.1, p.2) (let q = went-not c.in_err-admit.ensures (number-ne c.in_err-admit.field-0.0) in
    ranged-off _ _ (number-ne c.in_err-admit.field-0.0)
    (call-unadmitted c.args.arena.now (table_in c.args.mem.now) c.args.who c.args.h c.args.mode c.args.from c.args.len q))

pub slice_bounds-fallocate_led-end : goal.slice_bounds-fallocate_led-end
slice_bounds-fallocate_led-end c = sym (length-firsts c.admit.new.chains c.admit.auto.chains)

pub fallocate_led-requires : goal.fallocate_led-requires
fallocate_led-requires c = record { admitted = went-has c.in_ok-admit.ensures refl; plan_len = c.requires.plan_len }
