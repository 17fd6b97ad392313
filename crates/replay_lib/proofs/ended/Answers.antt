-- `ended`: the mark, in a desk of its length.
use borrow.Author.Tests.{eq-eqb, ne_eqb}
use Rattle.replay_lib.proofs.ended.Goals as goal

pub returns-then-desk-ne-DESK : goal.returns-then-desk-ne-DESK
returns-then-desk-ne-DESK c = simp (ne_eqb _ _ c.if-desk-ne-DESK.true)

pub returns : goal.returns
returns c = simp (eq-eqb _ _ c.if-desk-ne-DESK.false)
