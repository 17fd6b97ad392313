-- `calls_entry::get_entry`: memory has the table.
use mathlib.Core.Path.{◌∙◌, ap}
use lib.ListN.{length}
use Rattle.table.specs.declared.Table.{Table}
use Rattle.sefs.specs.Read.{call_entry}
use Rattle.calls.specs.Answers.{answer_of, laid}
use Rattle.calls_entry.proofs.get_entry.Goals as goal

pub entry_on-requires : goal.entry_on-requires
entry_on-requires c = c.put_table.ensures.1

pub returns : goal.returns
returns c =
    let s = c.args in
    let r = c.entry_on.ensures in
    let e = c.put_table.ensures.0 in (
      r.0 ∙ ap (λ (u : Table). answer_of (call_entry s.arena.now u s.who s.h s.k (length s.out.now))) e,
      r.1 ∙ ap (λ (u : Table). laid s.out.now (call_entry s.arena.now u s.who s.h s.k (length s.out.now))) e,
    )
