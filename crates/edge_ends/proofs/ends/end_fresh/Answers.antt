-- `edge_ends::ends::end_fresh`: the empty table, laid over all of the slice.
use mathlib.Core.Path.{refl, sym, ◌∙◌}
use Rattle.base.proofs.Parts.{paste-whole}
use Rattle.table.specs.Table.{empty_table}
use Rattle.table_bytes.specs.Layout.{bytes_of_table}
use Rattle.table_bytes.proofs.Layouts.{length-fits}
use Rattle.table_bytes.proofs.Empty.{empty-fits}
use Rattle.edge_ends.proofs.ends.end_fresh.Goals as goal

pub returns-in-Ok : goal.returns-in-Ok
returns-in-Ok g c =
    rw c.in-Ok.is (refl, c.put_empty.ensures ∙ paste-whole c.args.table.now (bytes_of_table empty_table) (c.requires ∙ sym (length-fits empty_table empty-fits)))
