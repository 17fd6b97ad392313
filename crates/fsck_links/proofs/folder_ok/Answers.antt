-- `fsck_links::folder_ok`: with no links it is removed, else linked.
use Rattle.std.proofs.Common.{arith}
use Rattle.std.proofs.lemmas.Bool.Decides.{nat_tests}
use Rattle.mem.specs.Mem.{table_in}
use Rattle.rules.specs.Tests.{linked, removed}
use Rattle.fsck_links.proofs.folder_ok.Goals as goal

pub returns-then-is_open : goal.returns-then-is_open
unfolding linked removed
returns-then-is_open c = grind (arith, nat_tests, c.is_loose.ensures c.args.arena.now (table_in c.args.mem.now) c.requires.loaded.1)

pub returns-else-is_open : goal.returns-else-is_open
unfolding linked removed
returns-else-is_open c = grind (arith, nat_tests)

pub returns-then-is_due : goal.returns-then-is_due
unfolding linked removed
returns-then-is_due c = grind (arith, nat_tests, c.is_due.ensures c.args.arena.now (table_in c.args.mem.now) c.requires.loaded.1)

pub returns-else-is_due : goal.returns-else-is_due
unfolding linked removed
returns-else-is_due c = grind (arith, nat_tests, c.is_due.ensures c.args.arena.now (table_in c.args.mem.now) c.requires.loaded.1)
