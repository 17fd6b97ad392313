-- `calls_entry::entry_led`: the handle's row, then the slot by the chains.
use Rattle.std.proofs.lemmas.Result.{err_from_is_err_and}
use Rattle.base.proofs.Tells.{number-ne}
use mathlib.Core.Path.{refl}
use lib.ListN.{length}
use Rattle.base.proofs.Outs.{went-has}
use Rattle.mem.specs.Mem.{table_in}
use Rattle.calls.proofs.Asks.{admitted}
use Rattle.calls_entry.proofs.Entries.{entry-dead, entry-goes}
use Rattle.calls_entry.proofs.entry_led.Goals as goal

pub returns-in_err-row : goal.returns-in_err-row
returns-in_err-row c =
    let p = err_from_is_err_and c.from_residual.result c.from_residual.ensures.1 in
    rw (p.1, p.2) (entry-dead c.args.arena.now (table_in c.args.mem.now) c.args.who c.args.h (admitted c.requires) c.args.k (length c.args.out.now) _ _ c.in_err-row.ensures _ (number-ne c.in_err-row.field-0.0))

pub rec_at-rec-requires : goal.rec_at-rec-requires
rec_at-rec-requires c = (c.requires.whole, went-has c.in_ok-row.ensures refl)

pub returns : goal.returns
returns c =
    entry-goes c.args.arena.now (table_in c.args.mem.now) c.args.who c.args.h (admitted c.requires) c.args.k (length c.args.out.now) _ _ c.in_ok-row.ensures _ refl c.rec_at-rec.ensures c.entry_in.ensures
