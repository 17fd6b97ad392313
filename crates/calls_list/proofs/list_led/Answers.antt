-- `calls_list::list_led`: the handle's row, then the slots by the chains.
use mathlib.Core.Path.{refl, sym, ◌∙◌, ap}
use Rattle.std.proofs.lemmas.Result.{err_from_is_err_and}
use Rattle.base.proofs.Tells.{number-ne}
use lib.ListN.{length}
use Rattle.base.proofs.Outs.{went-has}
use Rattle.mem.specs.Mem.{table_in}
use Rattle.calls.specs.Answers.{listed_of, laid}
use Rattle.calls.proofs.Asks.{admitted}
use Rattle.calls_list.proofs.Calls.{listing-dead, listing-goes}
use Rattle.calls_list.proofs.list_led.Goals as goal

pub returns-in_err-row : goal.returns-in_err-row
returns-in_err-row c =
    let e = listing-dead c.args.arena.now (table_in c.args.mem.now) c.args.who c.args.h (admitted c.requires) c.args.at (length c.args.out.now) _ _ c.in_err-row.ensures (number-ne c.in_err-row.field-0.0) in
    let p = err_from_is_err_and c.from_residual.result c.from_residual.ensures.1 in
    rw (p.1, p.2) (sym (ap listed_of e), sym (ap (laid c.args.out.now) e))

pub rec_at-rec-requires : goal.rec_at-rec-requires
rec_at-rec-requires c = (c.requires.whole, went-has c.in_ok-row.ensures refl)

pub returns : goal.returns
returns c =
    let e = listing-goes c.args.arena.now (table_in c.args.mem.now) c.args.who c.args.h (admitted c.requires) c.args.at (length c.args.out.now) _ _ c.in_ok-row.ensures _ refl c.rec_at-rec.ensures in
    let L = c.list_in.ensures in
    (L.0 ∙ ap listed_of e, L.1 ∙ ap (laid c.args.out.now) e)
