-- `fsck_links::count_node`: a folder's later slots; any other id has none.
use mathlib.Core.Path.{sym, ◌∙◌}
use Rattle.mem.specs.Mem.{table_in}
use Rattle.fsck_links.proofs.Counts.{ids-most, below-is, no_node, folder-at, other_at, node_skip, node-counted}
use Rattle.fsck_links.proofs.count_node.Goals as goal

pub returns-then-not-is_node : goal.returns-then-not-is_node
returns-then-not-is_node c =
    let a = c.args.arena.now in
    let t = table_in c.args.mem.now in
    λ n H. node_skip a t n c.args.counts.now c.args.id (no_node a t c.args.id (sym (c.is_node.ensures.by_index a c.requires.loaded.0.1) ∙ c.if-not-is_node.true)) H

pub count_folder-requires : goal.count_folder-requires
count_folder-requires c =
    let a = c.args.arena.now in
    let t = table_in c.args.mem.now in
    let node = sym (c.is_node.ensures.by_index a c.requires.loaded.0.1) ∙ c.if-not-is_node.false in record {
      led = c.requires.led;
      below = (
        below-is a t c.args.id c.rec_of-rec.result (ids-most a c.args.mem.now c.requires.loaded.0.0 c.requires.loaded.0.1) c.requires.mem_value c.rec_of-rec.ensures (folder-at a t c.args.id c.rec_of-rec.result node c.rec_of-rec.ensures c.if-rec-eq2.true),
        c.requires.loaded.1.0,
      );
    }

pub returns-then-rec-eq2 : goal.returns-then-rec-eq2
returns-then-rec-eq2 c =
    let a = c.args.arena.now in
    let t = table_in c.args.mem.now in
    let node = sym (c.is_node.ensures.by_index a c.requires.loaded.0.1) ∙ c.if-not-is_node.false in
    λ n H. node-counted a t n _ c.args.id c.rec_of-rec.result c.rec_of-rec.ensures (folder-at a t c.args.id c.rec_of-rec.result node c.rec_of-rec.ensures c.if-rec-eq2.true) (c.count_folder.ensures n H)

pub returns-else-rec-eq2 : goal.returns-else-rec-eq2
returns-else-rec-eq2 c =
    let a = c.args.arena.now in
    let t = table_in c.args.mem.now in
    let node = sym (c.is_node.ensures.by_index a c.requires.loaded.0.1) ∙ c.if-not-is_node.false in
    λ n H. node_skip a t n c.args.counts.now c.args.id (other_at a t c.args.id c.rec_of-rec.result node c.rec_of-rec.ensures c.if-rec-eq2.false) H
