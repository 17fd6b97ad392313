-- `table_bytes::put_rows`: the first i are laid over what was there.
use mathlib.Core.Path.{◌≡◌}
use native.Mathlib.Omega.{arith}
use borrow.Author.Count.{below_none, below_more}
use Rattle.table_bytes.proofs.Runs.{lay-none, run-lay}
use Rattle.table_bytes.proofs.put_rows.Goals as goal

pub loop-i-init : goal.loop-i-init
loop-i-init c = (below_none _, lay-none _ _ 0)

pub loop-i-preserved : goal.loop-i-preserved
loop-i-preserved c =
    let l = c.loop-i in
    let h = below_more _ _ l.invariant.0 c.put_row.ensures.1 in
    (h, run-lay 117 _ _ _ _ 0 _ _ h (omega arith) (omega arith) l.invariant.1 c.put_row.ensures.0)

pub returns : goal.returns
returns c =
    let l = c.loop-i in
    let e : l.i ≡ 34 = omega arith in
    (rw e at l.invariant.1, λ i k. l.invariant.0 i (omega arith))
