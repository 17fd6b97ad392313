-- `nodes::release`: a row that is held is left alone.
use mathlib.Core.Path.{refl, ◌∙◌, sym}
use Rattle.base.specs.Out.{well}
use Rattle.nodes.proofs.Steps.{still-none}
use Rattle.nodes.proofs.Nodes.{release-held, release-free}
use Rattle.nodes.proofs.release.Goals as goal

pub returns-then-row_held : goal.returns-then-row_held
returns-then-row_held c =
    rw (release-held c.args.arena.now c.args.work.now c.args.mem.now c.args.i (sym c.row_held.ensures ∙ c.if-row_held.true)) (well refl (still-none 13 c.requires.0.fine c.requires.0.whole))

pub returns : goal.returns
returns c =
    rw (release-free c.args.arena.now c.args.work.now c.args.mem.now c.args.i (sym c.row_held.ensures ∙ c.if-row_held.false)) c.drop_node.ensures
