-- `removals::ask_node`: a law for each of its ends.
use mathlib.Core.Path.{sym, ◌∙◌}
use Rattle.table.specs.Table.{row_at}
use Rattle.mem.specs.Mem.{table_in}
use Rattle.removals.proofs.Parts.{type-above, as-folder, file-folder, file-other}
use native.Mathlib.Omega.{arith}
use Rattle.removals.proofs.ask_node.Goals as goal

pub returns-then-kind-gt4 : goal.returns-then-kind-gt4
returns-then-kind-gt4 c =
    type-above c.args.folder (row_at (table_in c.args.mem.now) c.args.i).rec (omega (arith, c.kind_at-kind.ensures, c.if-kind-gt4.true))

pub returns-then-folder : goal.returns-then-folder
returns-then-folder c =
    c.empty_folder.ensures ∙ as-folder c.args.folder (row_at (table_in c.args.mem.now) c.args.i).rec (omega (arith, c.kind_at-kind.ensures, c.if-kind-gt4.false)) c.if-folder.true

pub returns-then-kind-eq2 : goal.returns-then-kind-eq2
returns-then-kind-eq2 c =
    file-folder c.args.folder (row_at (table_in c.args.mem.now) c.args.i).rec (sym c.kind_at-kind.ensures ∙ c.if-kind-eq2.true) c.if-folder.false

pub returns : goal.returns
returns c =
    file-other c.args.folder (row_at (table_in c.args.mem.now) c.args.i).rec (omega (arith, c.kind_at-kind.ensures, c.if-kind-gt4.false)) (λ q. c.if-kind-eq2.false (c.kind_at-kind.ensures ∙ q)) c.if-folder.false
