-- `mem::row_held`: no hold that the loop passed names the row.
use mathlib.Core.Path.{sym, ◌∙◌}
use native.Mathlib.Omega.{arith}
use Rattle.base.proofs.Finds.{search-yes, search_no}
use Rattle.table.specs.Table.{row_used}
use Rattle.mem.proofs.row_held.Goals as goal

pub returns-then-names_row : goal.returns-then-names_row
unfolding row_used
returns-then-names_row c =
    search-yes _ 32 _ c.loop-n-test.true c.loop-n.invariant (sym c.names_row.ensures ∙ c.if-names_row.true)

pub returns : goal.returns
unfolding row_used
returns c = search_no _ 32 (λ j l. c.loop-n.invariant j (omega arith))
