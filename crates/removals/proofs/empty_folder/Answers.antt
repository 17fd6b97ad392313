-- `removals::empty_folder`: a law for each of its ends.
use mathlib.Core.Path.{sym, ◌∙◌}
use Rattle.table.specs.Table.{row_at}
use Rattle.mem.specs.Mem.{table_in}
use Rattle.removals.proofs.Parts.{empty-other, empty-few, empty-more, empty-two}
use native.Mathlib.Omega.{arith}
use Rattle.removals.proofs.empty_folder.Goals as goal

pub returns-then-kind-ne2 : goal.returns-then-kind-ne2
returns-then-kind-ne2 c =
    empty-other (row_at (table_in c.args.mem.now) c.args.i).rec (λ q. c.if-kind-ne2.true (c.kind_at-kind.ensures ∙ q))

pub returns-then-total-lt2 : goal.returns-then-total-lt2
returns-then-total-lt2 c =
    empty-few (row_at (table_in c.args.mem.now) c.args.i).rec (sym c.kind_at-kind.ensures ∙ c.if-kind-ne2.false) (omega (arith, c.blocks_at-total.ensures, c.if-total-lt2.true))

pub returns-then-total-gt2 : goal.returns-then-total-gt2
returns-then-total-gt2 c =
    empty-more (row_at (table_in c.args.mem.now) c.args.i).rec (sym c.kind_at-kind.ensures ∙ c.if-kind-ne2.false) (omega (arith, c.blocks_at-total.ensures, c.if-total-gt2.true))

pub returns : goal.returns
returns c =
    empty-two (row_at (table_in c.args.mem.now) c.args.i).rec (sym c.kind_at-kind.ensures ∙ c.if-kind-ne2.false) (omega (arith, c.blocks_at-total.ensures, c.if-total-lt2.false, c.if-total-gt2.false))
