-- `fsck_slots::dots_ok`: the definition, test by test.
use Rattle.std.proofs.Common.{arith}
use Rattle.std.proofs.lemmas.Bool.Decides.{nat_tests}
use Rattle.structs.specs.Layout.{entry_of}
use Rattle.rules.specs.Tests.{dots_allowed}
use Rattle.fsck_slots.proofs.dots_ok.Goals as goal

pub returns-then-u32_at-eq2 : goal.returns-then-u32_at-eq2
unfolding dots_allowed entry_of
returns-then-u32_at-eq2 c = grind (arith, nat_tests)

pub returns-else-u32_at-eq2 : goal.returns-else-u32_at-eq2
unfolding dots_allowed entry_of
returns-else-u32_at-eq2 c = grind (arith, nat_tests)
