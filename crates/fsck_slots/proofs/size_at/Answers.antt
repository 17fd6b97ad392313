-- `fsck_slots::size_at`: no node, a folder, or any other node.
use mathlib.Core.Path.{sym, ◌∙◌}
use Rattle.mem.specs.Mem.{table_in}
use Rattle.fsck_slots.proofs.Slots.{size_none, size-folder, size-own}
use Rattle.fsck_slots.proofs.size_at.Goals as goal

pub returns-then-not-is_node : goal.returns-then-not-is_node
returns-then-not-is_node c =
    size_none c.args.arena.now (table_in c.args.mem.now) c.args.id (sym c.if-not-is_node.true ∙ c.is_node.ensures.by_index c.args.arena.now c.requires.loaded.0.1)

pub returns-then-rec-eq2 : goal.returns-then-rec-eq2
returns-then-rec-eq2 c =
    size-folder c.args.arena.now (table_in c.args.mem.now) c.args.id (sym c.if-not-is_node.false ∙ c.is_node.ensures.by_index c.args.arena.now c.requires.loaded.0.1) c.rec_of-rec.result c.rec_of-rec.ensures c.if-rec-eq2.true

pub returns : goal.returns
returns c =
    size-own c.args.arena.now (table_in c.args.mem.now) c.args.id (sym c.if-not-is_node.false ∙ c.is_node.ensures.by_index c.args.arena.now c.requires.loaded.0.1) c.rec_of-rec.result c.rec_of-rec.ensures c.if-rec-eq2.false c.size_ok.result c.size_ok.ensures
