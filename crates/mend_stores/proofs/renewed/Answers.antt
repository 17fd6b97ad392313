-- `mend_stores::renewed`: the definition's two cases.
use mathlib.Core.Path.{refl}
use borrow.Author.Tests.{eq-eqb, ne_eqb}
use Rattle.arena.specs.Blocks.{blk}
use Rattle.mend_stores.specs.Stores.{renewed_by}
use Rattle.mend_stores.proofs.renewed.Goals as goal

pub returns-then-rec-eq2 : goal.returns-then-rec-eq2
unfolding renewed_by
returns-then-rec-eq2 c = rw (eq-eqb _ _ c.if-rec-eq2.true) refl

pub returns : goal.returns
unfolding renewed_by blk
returns c = rw (ne_eqb _ _ c.if-rec-eq2.false, c.u32_at.ensures) refl
