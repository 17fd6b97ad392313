-- `fsck_read::row_ok`: the definition, test by test.
use mathlib.Core.Path.{sym, ◌∙◌}
use Rattle.mem.specs.Mem.{table_in}
use Rattle.fsck_read.proofs.Rows.{row-free, row-not, row-rest}
use Rattle.fsck_read.proofs.row_ok.Goals as goal

pub returns-then-id-eq0 : goal.returns-then-id-eq0
returns-then-id-eq0 c =
    row-free c.args.arena.now (table_in c.args.mem.now) c.args.i c.index-id.result (c.index-id.ensures ∙ c.id_at.ensures) c.if-id-eq0.true

pub returns-then-not-is_node : goal.returns-then-not-is_node
returns-then-not-is_node c =
    row-not c.args.arena.now (table_in c.args.mem.now) c.args.i c.index-id.result (c.index-id.ensures ∙ c.id_at.ensures) c.if-id-eq0.false
    (sym c.if-not-is_node.true ∙ c.is_node.ensures.by_index c.args.arena.now c.requires.loaded.0.1)

pub returns : goal.returns
returns c =
    row-rest c.args.arena.now (table_in c.args.mem.now) c.args.i c.index-id.result (c.index-id.ensures ∙ c.id_at.ensures) c.clean_ok.result c.if-id-eq0.false
    (sym c.if-not-is_node.false ∙ c.is_node.ensures.by_index c.args.arena.now c.requires.loaded.0.1) c.clean_ok.ensures
