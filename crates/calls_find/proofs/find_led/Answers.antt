-- `calls_find::find_led`: the handle's row, then the node by the chains.
use Rattle.std.proofs.lemmas.Result.{err_from_is_err_and}
use Rattle.base.specs.Out.{ill}
use Rattle.base.proofs.Tells.{number-ne, number-pos}
use mathlib.Core.Path.{refl}
use Rattle.base.proofs.Outs.{went-has}
use Rattle.mem.specs.Mem.{table_in}
use Rattle.calls.proofs.Asks.{admitted}
use Rattle.calls.proofs.General.{went-as}
use Rattle.calls_find.proofs.Finds.{find-stop, find-next}
use Rattle.calls_find.proofs.find_led.Goals as goal

pub returns-in_err-row : goal.returns-in_err-row
returns-in_err-row c =
    let p = err_from_is_err_and c.from_residual.result c.from_residual.ensures.1 in
    let e = c.in_err-row.field-0.0 in
    rw (p.1, p.2) (ill (number-pos e) (find-stop c.args.arena.now (table_in c.args.mem.now) c.args.who c.args.h c.args.name.now (admitted c.requires) _ _ c.in_err-row.ensures (number-ne e)))

pub give_named-requires : goal.give_named-requires
give_named-requires c =
    let p = c.requires in record { led = p.led; whole = (p.whole, went-has c.in_ok-row.ensures refl) }

pub returns : goal.returns
returns c =
    went-as (find-next c.args.arena.now (table_in c.args.mem.now) c.args.who c.args.h c.args.name.now (admitted c.requires) _ _ c.in_ok-row.ensures refl) c.give_named.ensures
