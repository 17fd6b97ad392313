-- `fsck_climb::parent_at`: of a folder alone.
use mathlib.Core.Path.{sym, ◌∙◌}
use native.Mathlib.Omega.{arith}
use Rattle.mem.specs.Mem.{table_in}
use Rattle.fsck_climb.proofs.Ways.{folder-not-node, folder-not-kind, folder-yes, up_none, up-some}
use Rattle.fsck_climb.proofs.parent_at.Goals as goal

pub returns-then-not-is_node : goal.returns-then-not-is_node
returns-then-not-is_node c = (
  up_none c.args.arena.now (table_in c.args.mem.now) c.args.id (folder-not-node c.args.arena.now (table_in c.args.mem.now) c.args.id
      (sym (c.is_node.ensures.by_index c.args.arena.now c.requires.loaded.0.1) ∙ c.if-not-is_node.true)),
  omega arith,
)

pub returns-then-rec-eq2 : goal.returns-then-rec-eq2
returns-then-rec-eq2 c = (
  up-some c.args.arena.now (table_in c.args.mem.now) c.args.id c.rec_of-rec.result c.parent_of.result c.rec_of-rec.ensures
      (folder-yes c.args.arena.now (table_in c.args.mem.now) c.args.id c.rec_of-rec.result c.rec_of-rec.ensures
      (sym (c.is_node.ensures.by_index c.args.arena.now c.requires.loaded.0.1) ∙ c.if-not-is_node.false) c.if-rec-eq2.true) c.parent_of.ensures.0,
  c.parent_of.ensures.1,
)

pub returns : goal.returns
returns c = (
  up_none c.args.arena.now (table_in c.args.mem.now) c.args.id
      (folder-not-kind c.args.arena.now (table_in c.args.mem.now) c.args.id c.rec_of-rec.result c.rec_of-rec.ensures c.if-rec-eq2.false),
  omega arith,
)
