-- `mem::write_back`: the table's bytes, with their marks as they are written.
use mathlib.Core.Path.{ap, ◌∙◌}
use mathlib.Core.List.{List}
use Prim.Native.Nat.{ℕ}
use Rattle.table_bytes.specs.Layout.{table_of, bytes_of_table}
use Rattle.mem.proofs.Mems.{table-front}
use Rattle.mem.proofs.write_back.Goals as goal

pub returns : goal.returns
returns c =
    c.settle_marks.ensures ∙ ap (λ (l : List ℕ). bytes_of_table (table_of l)) c.copy.ensures ∙ ap bytes_of_table (table-front c.args.mem.now)
