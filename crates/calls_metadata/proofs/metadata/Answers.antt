-- `calls_metadata::metadata`: memory has the table.
use mathlib.Core.Path.{◌∙◌, ap}
use Rattle.table.specs.declared.Table.{Table}
use Rattle.sefs.specs.Read.{call_metadata}
use Rattle.calls_metadata.proofs.metadata.Goals as goal

pub metadata_on-requires : goal.metadata_on-requires
metadata_on-requires c = c.put_table.ensures.1

pub returns : goal.returns
returns c =
    let s = c.args in
    c.metadata_on.ensures ∙ ap (λ (u : Table). call_metadata s.arena.now u s.who s.h) c.put_table.ensures.0
