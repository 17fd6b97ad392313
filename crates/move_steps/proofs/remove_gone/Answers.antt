-- `move_steps::remove_gone`: by whether there is a node.
use Rattle.move_steps.proofs.Steps.{gone-free, gone-node, gone-row}
use Rattle.move_steps.proofs.remove_gone.Goals as goal

pub dirent_node_remove-requires : goal.dirent_node_remove-requires
dirent_node_remove-requires c =
    (c.requires.0, (c.requires.1.0, (c.requires.1.1.0, (gone-row _ _ _ c.in-Node.is c.requires.1.1.1.1, c.requires.1.1.1.0))))

pub returns-in-Free : goal.returns-in-Free
returns-in-Free c =
    gone-free _ _ _ _ _ c.in-Free.is c.requires.0

pub returns-in-Node : goal.returns-in-Node
returns-in-Node c =
    gone-node _ _ _ _ _ _ _ c.in-Node.is c.dirent_node_remove.ensures
