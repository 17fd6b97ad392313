-- `calls_read::read_led`: the handle, then the record of its row.
use mathlib.Core.Path.{refl}
use lib.ListN.{length}
use Rattle.base.proofs.Outs.{went-has}
use Rattle.std.proofs.lemmas.Result.{err_from_is_err_and}
use Rattle.base.proofs.Tells.{number-ne}
use Rattle.mem.specs.Mem.{table_in}
use Rattle.calls.proofs.Asks.{admitted}
use Rattle.calls.proofs.Outputs.{lays-not}
use Rattle.calls_read.proofs.Bytes.{read-refused, read_goes}
use Rattle.calls_read.proofs.read_led.Goals as goal

pub returns-in_err-row : goal.returns-in_err-row
returns-in_err-row c =
    let s = c.args in
    let e = c.in_err-row.field-0.0 in
    let p = err_from_is_err_and c.from_residual.result c.from_residual.ensures.1 in
    rw (p.1, p.2) (lays-not e s.out.now s.out.now (read-refused s.arena.now (table_in s.mem.now) s.who s.h (admitted c.requires) s.place (length s.out.now) _ _ c.in_err-row.ensures (number-ne e)) refl)

pub rec_at-rec-requires : goal.rec_at-rec-requires
rec_at-rec-requires c = (c.requires.whole, went-has c.in_ok-row.ensures refl)

pub returns : goal.returns
returns c =
    read_goes c.args.arena.now (table_in c.args.mem.now) c.args.who c.args.h (admitted c.requires) c.args.place (length c.args.out.now) _ _ c.in_ok-row.ensures _ _ _ _ refl c.rec_at-rec.ensures c.read_in.ensures
