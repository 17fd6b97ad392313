-- `mend_plan::due_size`: the head has the length of the file.
use mathlib.Core.Path.{refl, ◌∙◌}
use borrow.Author.Tests.{eq-eqb, ne_eqb}
use Rattle.arena.specs.Blocks.{blk}
use Rattle.sefs.specs.Nodes.{node_file}
use Rattle.mend_plan.proofs.Fates.{head-length}
use Rattle.mend_plan.proofs.due_size.Goals as goal

pub returns-then-rec-eq2 : goal.returns-then-rec-eq2
returns-then-rec-eq2 c = rw (eq-eqb c.args.rec.kind 2 c.if-rec-eq2.true) refl

pub returns : goal.returns
unfolding blk
returns c =
    rw (ne_eqb c.args.rec.kind 2 c.if-rec-eq2.false) (c.u32_at.ensures ∙ head-length c.args.arena.now (node_file c.args.rec) c.args.head c.requires.0 c.requires.1.0)
