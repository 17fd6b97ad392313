-- `calls_close::close_led`: the handle's row, the hold, then superblock and maps.
use Rattle.std.proofs.lemmas.Result.{err_from_is_err_and}
use Rattle.base.proofs.Tells.{number-ne}
use mathlib.Core.Path.{refl}
use Rattle.base.proofs.Outs.{went-has}
use Rattle.mem.specs.Mem.{table_in}
use Rattle.calls.proofs.Asks.{admitted}
use Rattle.calls_close.proofs.Closes.{close-not, close_at}
use Rattle.calls_close.proofs.close_led.Goals as goal

pub returns-in_err-row : goal.returns-in_err-row
returns-in_err-row c =
    let p = err_from_is_err_and c.from_residual.result c.from_residual.ensures.1 in
    rw (p.1, p.2) (close-not c.args.arena.now (table_in c.args.mem.now) c.args.who c.args.h (admitted c.requires) c.in_err-row.ensures (number-ne c.in_err-row.field-0.0))

pub returns : goal.returns
returns c =
    let b = c.in_ok-row.ensures in
    let l = c.load_meta.ensures in
    close_at c.args.arena.now (table_in c.args.mem.now) c.args.who c.args.h (admitted c.requires) b c.close_hold-last.result (table_in c.close_hold-last.new.mem) _ c.close_hold-last.ensures l.0 l.1.0 refl (c.requires.led.whole, (l.1.1, went-has b refl))
