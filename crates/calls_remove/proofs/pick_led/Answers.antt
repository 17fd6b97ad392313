-- `calls_remove::pick_led`: the handle's row, then what is found by the chains.
use Rattle.std.proofs.lemmas.Result.{err_from_is_err_and}
use Rattle.base.proofs.Tells.{number-ne}
use mathlib.Core.Path.{refl}
use Rattle.base.proofs.Outs.{went-has}
use Rattle.calls.proofs.Asks.{admitted}
use Rattle.calls_remove.proofs.Removes.{remove-not, remove-row}
use Rattle.calls_remove.proofs.pick_led.Goals as goal

pub returns-in_err-row : goal.returns-in_err-row
returns-in_err-row c =
    let p = err_from_is_err_and c.from_residual.result c.from_residual.ensures.1 in
    rw (p.1, p.2) (remove-not c.args.folder c.args.arena.now _ _ c.args.mem.now _ c.args.who c.args.h c.args.name.now (admitted c.requires) c.in_err-row.ensures (number-ne c.in_err-row.field-0.0))

pub pick_in-requires : goal.pick_in-requires
pick_in-requires c =
    let p = went-has c.in_ok-row.ensures refl in record { led = p.0.led; whole = (p.0.whole, p.1) }

pub returns : goal.returns
returns c =
    remove-row c.args.folder c.args.arena.now _ _ c.args.mem.now _ c.args.who c.args.h c.args.name.now (admitted c.requires) c.in_ok-row.ensures refl c.pick_in.ensures
