-- `fsck_slots::names_node`: a node's id is the maps'; then its record tells.
use Rattle.std.proofs.Common.{arith}
use Rattle.std.proofs.lemmas.Bool.Decides.{nat_tests}
use Rattle.structs.specs.Layout.{entry_of}
use Rattle.fsck_slots.specs.Slots.{names_node}
use Rattle.fsck_slots.proofs.names_node.Goals as goal

pub returns-then-is_node : goal.returns-then-is_node
unfolding names_node entry_of
returns-then-is_node c = grind (arith, nat_tests, c.is_node.ensures.by_index c.args.arena.now c.requires.loaded.0.1)

pub returns-else-is_node : goal.returns-else-is_node
unfolding names_node entry_of
returns-else-is_node c = grind (arith, nat_tests, c.is_node.ensures.by_index c.args.arena.now c.requires.loaded.0.1)
