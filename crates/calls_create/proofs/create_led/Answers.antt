-- `calls_create::create_led`: the handle's row, then the other questions by the chains.
use Rattle.std.proofs.lemmas.Result.{err_from_is_err_and}
use Rattle.base.proofs.Tells.{number-ne}
use mathlib.Core.Path.{refl}
use Rattle.base.proofs.Outs.{went-has}
use Rattle.calls.proofs.Asks.{admitted}
use Rattle.steps.proofs.Ends.{rest-off, rest-not}
use Rattle.calls_create.proofs.Creates.{create-not, create-row}
use Rattle.calls_create.proofs.create_led.Goals as goal

pub returns-in_err-row : goal.returns-in_err-row
returns-in_err-row c =
    let p = err_from_is_err_and c.from_residual.result c.from_residual.ensures.1 in
    rw (p.1, p.2) (create-not c.args.arena.now _ _ c.args.mem.now _ c.args.who c.args.h c.args.name.now c.args.new.kind c.args.new.mode c.args.new.time c.args.new.file (admitted c.requires) c.in_err-row.ensures (number-ne c.in_err-row.field-0.0))

pub create_asks-requires : goal.create_asks-requires
create_asks-requires c =
    let p = went-has c.in_ok-row.ensures refl in record { led = p.0.led; whole = (p.0.whole, p.1) }

pub returns-in_err-create_asks : goal.returns-in_err-create_asks
returns-in_err-create_asks c =
    let p = err_from_is_err_and c.from_residual-in_err-create_asks.result c.from_residual-in_err-create_asks.ensures.1 in
    let z = number-ne c.in_err-create_asks.field-0.0 in
    rw (p.1, p.2) (rest-off z (rest-not (create-row c.args.arena.now _ _ c.args.mem.now _ c.args.who c.args.h c.args.name.now c.args.new.kind c.args.new.mode c.args.new.time c.args.new.file (admitted c.requires) c.in_ok-row.ensures refl c.in_err-create_asks.ensures) z))

pub returns : goal.returns
returns c =
    create-row c.args.arena.now _ _ c.args.mem.now _ c.args.who c.args.h c.args.name.now c.args.new.kind c.args.new.mode c.args.new.time c.args.new.file (admitted c.requires) c.in_ok-row.ensures refl c.in_ok-create_asks.ensures
