-- `fsck_links::is_due`: root, or any other.
use Rattle.fsck_links.proofs.Nodes.{due-root, due-other}
use Rattle.fsck_links.proofs.is_due.Goals as goal

pub returns-then-id-eq2 : goal.returns-then-id-eq2
returns-then-id-eq2 c = λ a t e. due-root a t _ _ e c.if-id-eq2.true

pub returns : goal.returns
returns c = λ a t e. due-other a t _ _ e c.if-id-eq2.false
