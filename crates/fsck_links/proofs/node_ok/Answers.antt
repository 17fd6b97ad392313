-- `fsck_links::node_ok`: no node, a folder, or any other node.
use mathlib.Core.Path.{sym, ◌∙◌}
use Rattle.mem.specs.Mem.{table_in}
use Rattle.fsck_links.proofs.Nodes.{node-none, node-folder, node-other}
use Rattle.fsck_links.proofs.node_ok.Goals as goal

pub returns-then-not-is_node : goal.returns-then-not-is_node
returns-then-not-is_node c =
    let a = c.args.arena.now in
    node-none a (table_in c.args.mem.now) c.args.id (sym (c.is_node.ensures.by_index a c.requires.loaded.0.1) ∙ c.if-not-is_node.true)

pub returns-then-rec-eq2 : goal.returns-then-rec-eq2
returns-then-rec-eq2 c =
    let a = c.args.arena.now in
    let t = table_in c.args.mem.now in
    let node = sym (c.is_node.ensures.by_index a c.requires.loaded.0.1) ∙ c.if-not-is_node.false in
    node-folder a t c.args.id node c.rec_of-rec.result c.rec_of-rec.ensures c.folder_ok.result c.if-rec-eq2.true c.folder_ok.ensures

pub returns : goal.returns
returns c =
    let a = c.args.arena.now in
    let t = table_in c.args.mem.now in
    let node = sym (c.is_node.ensures.by_index a c.requires.loaded.0.1) ∙ c.if-not-is_node.false in
    node-other a t c.args.id node c.rec_of-rec.result c.rec_of-rec.ensures c.other_ok.result c.args.named c.requires.named_value c.if-rec-eq2.false c.other_ok.ensures
