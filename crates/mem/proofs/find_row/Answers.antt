-- `mem::find_row`: no row that the loop passed has the id.
use mathlib.Core.Path.{sym, ◌∙◌}
use native.Mathlib.Omega.{arith}
use borrow.Author.Tests.{eq-eqb}
use Rattle.base.proofs.Finds.{search-hit, search-none}
use Rattle.table.specs.Table.{row_of}
use Rattle.mem.proofs.find_row.Goals as goal

pub returns-then-id_at-id : goal.returns-then-id_at-id
unfolding row_of
returns-then-id_at-id c =
    search-hit _ 34 _ c.loop-i-test.true c.loop-i.invariant (eq-eqb _ _ (sym c.id_at.ensures ∙ c.if-id_at-id.true))

pub returns : goal.returns
unfolding row_of
returns c = search-none _ 34 (λ j l. c.loop-i.invariant j (omega arith))
