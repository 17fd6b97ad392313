-- `calls_link::link_led`: the handles' rows, then the other questions by the chains.
use Rattle.std.proofs.lemmas.Result.{err_from_is_err_and}
use Rattle.base.proofs.Tells.{number-ne}
use mathlib.Core.Path.{refl}
use Rattle.base.proofs.Outs.{went-has}
use Rattle.calls.proofs.Asks.{admitted}
use Rattle.steps.proofs.Ends.{rest-off, rest-not}
use Rattle.calls_link.proofs.Links.{link-not, link-rows}
use Rattle.calls_link.proofs.link_led.Goals as goal

pub returns-in_err-i : goal.returns-in_err-i
returns-in_err-i c =
    let p = err_from_is_err_and c.from_residual.result c.from_residual.ensures.1 in
    rw (p.1, p.2) (link-not c.args.arena.now _ _ c.args.mem.now _ c.args.who c.args.h c.args.child c.args.name.now (admitted c.requires) c.in_err-i.ensures (number-ne c.in_err-i.field-0.0))

pub link_asks-requires : goal.link_asks-requires
link_asks-requires c =
    let p = went-has c.in_ok-i.ensures refl in record { led = p.0.led; whole = (p.0.whole, p.1) }

pub returns-in_err-link_asks : goal.returns-in_err-link_asks
returns-in_err-link_asks c =
    let p = err_from_is_err_and c.from_residual-in_err-link_asks.result c.from_residual-in_err-link_asks.ensures.1 in
    let z = number-ne c.in_err-link_asks.field-0.0 in
    rw (p.1, p.2) (rest-off z (rest-not (link-rows c.args.arena.now _ _ c.args.mem.now _ c.args.who c.args.h c.args.child c.args.name.now (admitted c.requires) c.in_ok-i.ensures refl c.in_err-link_asks.ensures) z))

pub returns : goal.returns
returns c =
    link-rows c.args.arena.now _ _ c.args.mem.now _ c.args.who c.args.h c.args.child c.args.name.now (admitted c.requires) c.in_ok-i.ensures refl c.in_ok-link_asks.ensures
