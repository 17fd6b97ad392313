-- `fsck_links::names_at`: a folder alone is asked.
use mathlib.Core.Path.{sym, ◌∙◌}
use Rattle.std.proofs.Common.{arith}
use Rattle.std.proofs.lemmas.Bool.Decides.{nat_tests}
use Rattle.mem.specs.Mem.{table_in}
use Rattle.fsck_links.specs.Counts.{names_fine}
use Rattle.fsck_links.proofs.Counts.{no_node, folder-at, other_at}
use Rattle.fsck_links.proofs.Nodes.{names-none}
use Rattle.fsck_links.proofs.names_at.Goals as goal

pub returns-then-not-is_node : goal.returns-then-not-is_node
returns-then-not-is_node c =
    let a = c.args.arena.now in
    let t = table_in c.args.mem.now in
    names-none a t c.args.id (no_node a t c.args.id (sym (c.is_node.ensures.by_index a c.requires.loaded.0.1) ∙ c.if-not-is_node.true))

pub returns-then-rec-ne2 : goal.returns-then-rec-ne2
returns-then-rec-ne2 c =
    let a = c.args.arena.now in
    let t = table_in c.args.mem.now in
    let node = sym (c.is_node.ensures.by_index a c.requires.loaded.0.1) ∙ c.if-not-is_node.false in
    names-none a t c.args.id (other_at a t c.args.id c.rec_of-rec.result node c.rec_of-rec.ensures c.if-rec-ne2.true)

pub returns-then-is_due : goal.returns-then-is_due
unfolding names_fine
returns-then-is_due c =
    grind (arith, nat_tests, folder-at c.args.arena.now (table_in c.args.mem.now) c.args.id, c.is_node.ensures.by_index c.args.arena.now c.requires.loaded.0.1, c.is_due.ensures c.args.arena.now (table_in c.args.mem.now) c.requires.named_value)

pub returns-else-is_due : goal.returns-else-is_due
unfolding names_fine
returns-else-is_due c =
    grind (arith, nat_tests, folder-at c.args.arena.now (table_in c.args.mem.now) c.args.id, c.is_node.ensures.by_index c.args.arena.now c.requires.loaded.0.1, c.is_due.ensures c.args.arena.now (table_in c.args.mem.now) c.requires.named_value, c.is_loose.ensures c.args.arena.now (table_in c.args.mem.now) c.requires.named_value)
