-- `nodes::free_unlinked`: a node that has links is left alone.
use mathlib.Core.Path.{refl, sym, ◌∙◌}
use borrow.Author.Tests.{eq-eqb, ne_eqb}
use Rattle.base.specs.Out.{well}
use Rattle.table.specs.Table.{row_at}
use Rattle.mem.specs.Mem.{table_in}
use Rattle.nodes.proofs.Steps.{still-none}
use Rattle.nodes.proofs.free_unlinked.Goals as goal

pub returns-then-nlinks_at-eq0 : goal.returns-then-nlinks_at-eq0
returns-then-nlinks_at-eq0 c =
    rw (eq-eqb (row_at (table_in c.args.mem.now) c.args.i).rec.nlinks 0 (sym c.nlinks_at.ensures ∙ c.if-nlinks_at-eq0.true)) c.free_node.ensures

pub returns : goal.returns
returns c =
    rw (ne_eqb (row_at (table_in c.args.mem.now) c.args.i).rec.nlinks 0 (λ q. c.if-nlinks_at-eq0.false (c.nlinks_at.ensures ∙ q))) (well refl (still-none 10 c.requires.0.fine c.requires.0.whole))
