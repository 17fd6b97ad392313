-- `calls_sync::sync_asked`: arena and table, then the rest by the chains that were left.
use Rattle.std.proofs.lemmas.Result.{err_from_is_err_and}
use Rattle.base.proofs.Tells.{number-ne}
use mathlib.Core.Path.{refl}
use mathlib.Core.Path.{sym}
use Rattle.base.proofs.Outs.{went-has, went-not}
use Rattle.sound.proofs.Chains.{length-firsts}
use Rattle.mem.specs.Mem.{table_in}
use Rattle.calls.proofs.Asks.{blank}
use Rattle.steps.proofs.Ends.{rest-off}
use Rattle.calls_sync.proofs.Syncs.{sync-refused}
use Rattle.calls_sync.proofs.sync_asked.Goals as goal

pub admit-requires : goal.admit-requires
admit-requires c = (blank, c.requires)

pub returns-in_err-admit : goal.returns-in_err-admit
returns-in_err-admit c =
    let p = err_from_is_err_and c.from_residual.result c.from_residual.ensures.1 in
    rw (p.1, p.2) (let s = c.args in
    rest-off (number-ne c.in_err-admit.field-0.0) (sync-refused s.arena.now (table_in s.mem.now) (went-not c.in_err-admit.ensures (number-ne c.in_err-admit.field-0.0))))

pub slice_bounds-sync_led-end : goal.slice_bounds-sync_led-end
slice_bounds-sync_led-end c = sym (length-firsts c.admit.new.chains c.admit.auto.chains)

pub sync_led-requires : goal.sync_led-requires
sync_led-requires c = went-has c.in_ok-admit.ensures refl
