-- `fsck::check`: memory has the table.
use mathlib.Core.Path.{◌∙◌, ap}
use Rattle.table.specs.declared.Table.{Table}
use Rattle.fsck.specs.Verdicts.{verdict_of}
use Rattle.fsck.proofs.check.Goals as goal

pub check_on-requires : goal.check_on-requires
check_on-requires c = c.put_table.ensures.1

pub returns : goal.returns
returns c =
    c.check_on.ensures ∙ ap (λ (u : Table). verdict_of c.args.arena.now u) c.put_table.ensures.0
