-- `fsck_climb::node_ok`: a folder that has a place alone is asked.
use mathlib.Core.Path.{sym, ◌∙◌}
use Rattle.std.proofs.Common.{arith}
use Rattle.std.proofs.lemmas.Bool.Decides.{nat_tests}
use Rattle.mem.specs.Mem.{table_in}
use Rattle.fsck_climb.proofs.Ways.{folder-not-node, folder-not-kind, folder-yes, tree-none, tree-out, tree-some}
use Rattle.fsck_climb.proofs.node_ok.Goals as goal

pub returns-then-not-is_node : goal.returns-then-not-is_node
returns-then-not-is_node c =
    let a = c.args.arena.now in
    let t = table_in c.args.mem.now in
    tree-none a t c.args.id c.args.parents.now (folder-not-node a t c.args.id (sym (c.is_node.ensures.by_index a c.requires.loaded.0.1) ∙ c.if-not-is_node.true))

pub returns-then-named-eq0 : goal.returns-then-named-eq0
returns-then-named-eq0 c =
    tree-out c.args.arena.now (table_in c.args.mem.now) c.args.id c.args.parents.now c.args.named c.requires.named_value (grind (arith, nat_tests))

pub returns-then-rec-eq2 : goal.returns-then-rec-eq2
returns-then-rec-eq2 c =
    let a = c.args.arena.now in
    let t = table_in c.args.mem.now in
    let node = sym (c.is_node.ensures.by_index a c.requires.loaded.0.1) ∙ c.if-not-is_node.false in
    tree-some a t c.args.id c.args.parents.now c.args.named c.requires.named_value (grind (arith, nat_tests)) (folder-yes a t c.args.id c.rec_of-rec.result c.rec_of-rec.ensures node c.if-rec-eq2.true) c.rec_of-rec.result c.folder_ok.result c.rec_of-rec.ensures c.folder_ok.ensures

pub returns : goal.returns
returns c =
    let a = c.args.arena.now in
    let t = table_in c.args.mem.now in
    tree-none a t c.args.id c.args.parents.now (folder-not-kind a t c.args.id c.rec_of-rec.result c.rec_of-rec.ensures c.if-rec-eq2.false)
