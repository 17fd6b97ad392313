-- `calls_list::list_from`: memory has the table.
use mathlib.Core.Path.{◌∙◌, ap}
use lib.ListN.{length}
use Rattle.table.specs.declared.Table.{Table}
use Rattle.sefs.specs.Read.{call_listing}
use Rattle.calls.specs.Answers.{listed_of, laid}
use Rattle.calls_list.proofs.list_from.Goals as goal

pub listing_on-requires : goal.listing_on-requires
listing_on-requires c = c.put_table.ensures.1

pub returns : goal.returns
returns c =
    let s = c.args in
    let r = c.listing_on.ensures in
    let e = c.put_table.ensures.0 in (
      r.0 ∙ ap (λ (u : Table). listed_of (call_listing s.arena.now u s.who s.h s.next (length s.out.now))) e,
      r.1 ∙ ap (λ (u : Table). laid s.out.now (call_listing s.arena.now u s.who s.h s.next (length s.out.now))) e,
    )
