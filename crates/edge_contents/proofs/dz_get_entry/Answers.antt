-- `edge_contents::dz_get_entry`: 255 where a size is wrong; else the call on the table in memory, and how it ends.
use mathlib.Core.Path.{sym, ◌∙◌}
use lib.ListN.{length}
use Rattle.sefs.specs.Read.{call_entry}
use Rattle.edge.proofs.Laws.{sized-is, sized-not, answers-not, by-laid}
use Rattle.edge_contents.proofs.dz_get_entry.Goals as goal

pub returns-then-table-ne-TABLE : goal.returns-then-table-ne-TABLE
returns-then-table-ne-TABLE c =
    answers-not (sized-not 4402 c.args.table.now _ c.if-table-ne-TABLE.true)

pub entry_on-a-requires : goal.entry_on-a-requires
entry_on-a-requires c =
    c.begin.ensures.1

pub returns : goal.returns
returns c =
    by-laid _ (sized-is 4402 c.args.table.now _ c.if-table-ne-TABLE.false ∙ (λ x. call_entry c.args.arena.now (sym c.begin.ensures.0 x) c.args.owner (sym c.handle.ensures x) c.args.slot (length c.args.out.now))) c.entry_on-a.ensures c.number.ensures
