-- `rows::next_row`: among the rows passed, `best` has the lowest id above `after`, which is `least`.
use Rattle.table.proofs.Next.{best_none, best-next}
use Rattle.rows.proofs.Rows.{id-taken, id-passed}
use Rattle.rows.proofs.next_row.Goals as goal
use Rattle.rows.proofs.next_row.Goals.{then-after-id, else-after-id}

pub loop-i-init : goal.loop-i-init
loop-i-init c = best_none _ _ _

pub loop-i-preserved : goal.loop-i-preserved
loop-i-preserved c =
    let b = c.loop-i.invariant in
    elim c.if-after-id.branch [
      | then-after-id w ↦ id-taken _ _ _ _ _ _ c.id_at-id.ensures b c.loop-i-test.true w.if-after-id.true _ _ w.best-is w.least-is
      | else-after-id w ↦ id-passed _ _ _ _ _ _ c.id_at-id.ensures b w.if-after-id.false _ _ w.best-is w.least-is
    ]

pub returns : goal.returns
returns c = best-next _ _ _ _ _ c.loop-i.auto.i-end c.loop-i-test.false c.loop-i.invariant
