-- `fsck_read::is_node`: the definition, test by test.
use Rattle.std.proofs.Common.{arith}
use Rattle.std.proofs.lemmas.Bool.Decides.{nat_tests}
use Rattle.rules.specs.Image.{is_node}
use Rattle.fsck_read.proofs.Nodes.{ids-is}
use Rattle.fsck_read.proofs.is_node.Goals as goal

pub returns-then-id-ne1-clause-by_index : goal.returns-then-id-ne1-clause-by_index
unfolding is_node
returns-then-id-ne1-clause-by_index c = λ a O. grind (arith, nat_tests, ids-is a c.args.mem.now O, O.maps)

pub returns-else-id-ne1-clause-by_index : goal.returns-else-id-ne1-clause-by_index
unfolding is_node
returns-else-id-ne1-clause-by_index c = λ a O. grind (arith, nat_tests, ids-is a c.args.mem.now O)
