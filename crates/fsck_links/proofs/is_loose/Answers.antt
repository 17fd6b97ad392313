-- `fsck_links::is_loose`: the definition.
use Rattle.std.proofs.Common.{arith}
use Rattle.std.proofs.lemmas.Bool.Decides.{nat_tests}
use Rattle.rules.specs.Tests.{loose}
use Rattle.fsck_links.proofs.is_loose.Goals as goal

pub returns-then-named-eq0 : goal.returns-then-named-eq0
unfolding loose
returns-then-named-eq0 c = λ a t e. grind (arith, nat_tests)

pub returns-else-named-eq0 : goal.returns-else-named-eq0
unfolding loose
returns-else-named-eq0 c = λ a t e. grind (arith, nat_tests)
