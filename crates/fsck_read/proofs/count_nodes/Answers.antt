-- `fsck_read::count_nodes`: no more than the ids passed, and the nodes among them.
use native.Mathlib.Omega.{arith}
use Rattle.fsck_read.proofs.Nodes.{nodes-none, nodes-more, nodes-all}
use Rattle.fsck_read.proofs.count_nodes.Goals as goal

pub loop-id-init : goal.loop-id-init
loop-id-init c = (omega arith, λ a O. nodes-none a)

pub loop-id-preserved : goal.loop-id-preserved
loop-id-preserved c =
    (omega arith, λ a O. nodes-more a c.loop-id.id c.loop-id.c c.one-c.result c.is_node.result (c.loop-id.invariant.1 a O) c.one-c.ensures.0 (c.is_node.ensures.by_index a O))

pub returns : goal.returns
returns c =
    λ a O. nodes-all a c.loop-id.id c.ids-id-end.result c.loop-id.c (c.loop-id.invariant.1 a O) (c.ids-id-end.ensures.by_index a O) (omega arith) (omega arith)
