-- `fsck_slots::folder_at`: no node, no folder, or a folder.
use mathlib.Core.Path.{sym, ◌∙◌}
use Rattle.mem.specs.Mem.{table_in}
use Rattle.fsck_slots.proofs.Slots.{folder-none, folder-other, folder-own}
use Rattle.fsck_slots.proofs.folder_at.Goals as goal

pub returns-then-not-is_node : goal.returns-then-not-is_node
returns-then-not-is_node c =
    folder-none c.args.arena.now (table_in c.args.mem.now) c.args.id (sym c.if-not-is_node.true ∙ c.is_node.ensures.by_index c.args.arena.now c.requires.loaded.0.1)

pub returns-then-rec-ne2 : goal.returns-then-rec-ne2
returns-then-rec-ne2 c =
    folder-other c.args.arena.now (table_in c.args.mem.now) c.args.id (sym c.if-not-is_node.false ∙ c.is_node.ensures.by_index c.args.arena.now c.requires.loaded.0.1) c.rec_of-rec.result c.rec_of-rec.ensures c.if-rec-ne2.true

pub returns : goal.returns
returns c =
    folder-own c.args.arena.now (table_in c.args.mem.now) c.args.id (sym c.if-not-is_node.false ∙ c.is_node.ensures.by_index c.args.arena.now c.requires.loaded.0.1) c.rec_of-rec.result c.rec_of-rec.ensures c.if-rec-ne2.false c.folder_ok.result c.folder_ok.ensures
