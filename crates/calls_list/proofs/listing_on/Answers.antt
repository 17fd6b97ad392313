-- `calls_list::listing_on`: arena and table, then the rest by the chains that were left.
use mathlib.Core.Path.{refl, sym, ap}
use Rattle.std.proofs.lemmas.Result.{err_from_is_err_and}
use Rattle.base.proofs.Tells.{number-ne}
use lib.ListN.{length}
use Rattle.base.proofs.Outs.{went-has, went-not}
use Rattle.sound.proofs.Chains.{length-firsts}
use Rattle.mem.specs.Mem.{table_in}
use Rattle.calls.specs.Answers.{listed_of, laid}
use Rattle.calls.proofs.Asks.{blank}
use Rattle.calls_list.proofs.Calls.{listing-refused}
use Rattle.calls_list.proofs.listing_on.Goals as goal

pub admit-requires : goal.admit-requires
admit-requires c = (blank, c.requires)

pub returns-in_err-admit : goal.returns-in_err-admit
returns-in_err-admit c =
    let s = c.args in
    let e = listing-refused s.arena.now (table_in s.mem.now) s.who s.h s.at (length s.out.now) (went-not c.in_err-admit.ensures (number-ne c.in_err-admit.field-0.0)) in
    let p = err_from_is_err_and c.from_residual.result c.from_residual.ensures.1 in
    rw (p.1, p.2) (sym (ap listed_of e), sym (ap (laid s.out.now) e))

pub slice_bounds-list_led-end : goal.slice_bounds-list_led-end
slice_bounds-list_led-end c = sym (length-firsts c.admit.new.chains c.admit.auto.chains)

pub list_led-requires : goal.list_led-requires
list_led-requires c = went-has c.in_ok-admit.ensures refl
