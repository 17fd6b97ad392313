-- `fsck_read::rows_ok`: row after row.
use Rattle.std.proofs.Common.{refl, rules, tests}
use Rattle.mem.specs.Mem.{table_in}
use Rattle.rules.specs.Tests.{row_allowed}
use Rattle.fsck_read.proofs.Ranges.{all-below}
use Rattle.fsck_read.proofs.rows_ok.Goals as goal

pub returns : goal.returns
returns c = all-below (row_allowed c.args.arena.now (table_in c.args.mem.now)) 34 _ _ _ _ c.all.ensures.ran refl (λ x q k. search (rules, tests)) (λ x q k. search (rules, tests))
