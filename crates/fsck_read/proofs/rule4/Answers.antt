-- `fsck_read::rule4`: the definition, test by test.
use Rattle.std.proofs.Common.{arith}
use Rattle.std.proofs.lemmas.Bool.Decides.{nat_tests}
use Rattle.rules.specs.Tests.{test4}
use Rattle.fsck_read.proofs.Rows.{clear-is}
use Rattle.fsck_read.proofs.rule4.Goals as goal

pub returns-then-maps_clear : goal.returns-then-maps_clear
unfolding test4
returns-then-maps_clear c = grind (arith, nat_tests, clear-is c.args.arena.now c.args.mem.now c.requires.loaded.1, c.requires.loaded.1.maps)

pub returns-else-maps_clear : goal.returns-else-maps_clear
unfolding test4
returns-else-maps_clear c = grind (arith, nat_tests, clear-is c.args.arena.now c.args.mem.now c.requires.loaded.1, c.requires.loaded.1.maps)
