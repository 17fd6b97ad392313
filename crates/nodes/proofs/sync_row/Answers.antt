-- `nodes::sync_row`: a clean row is left alone.
use mathlib.Core.Path.{refl, ◌∙◌, sym}
use Rattle.base.specs.Out.{well}
use Rattle.nodes.proofs.Steps.{still-none}
use Rattle.nodes.proofs.Nodes.{row-dirty, row-clean}
use Rattle.nodes.proofs.sync_row.Goals as goal

pub returns-then-dirty_at : goal.returns-then-dirty_at
returns-then-dirty_at c = rw (row-dirty c.args.arena.now c.args.work.now c.args.mem.now c.args.i (sym c.dirty_at.ensures ∙ c.if-dirty_at.true)) c.store_row.ensures

pub returns : goal.returns
returns c =
    rw (row-clean c.args.arena.now c.args.work.now c.args.mem.now c.args.i (sym c.dirty_at.ensures ∙ c.if-dirty_at.false)) (well refl (still-none 3 c.requires.0.fine c.requires.0.whole))
