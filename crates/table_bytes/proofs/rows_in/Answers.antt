-- `table_bytes::rows_in`: the first i are read.
use mathlib.Core.Path.{refl}
use native.Mathlib.Omega.{arith}
use Rattle.table_bytes.specs.Layout.{row_at_place}
use Rattle.table_bytes.proofs.Runs.{filled_none, filled_more, filled-all}
use Rattle.table_bytes.proofs.rows_in.Goals as goal

pub loop-i-init : goal.loop-i-init
loop-i-init c = filled_none _ _ _ _ refl

pub loop-i-preserved : goal.loop-i-preserved
unfolding row_at_place
loop-i-preserved c = filled_more _ _ 34 _ _ _ (omega arith) c.row_in.ensures c.loop-i.invariant

pub returns : goal.returns
returns c = filled-all _ _ 34 _ _ (omega arith) c.loop-i.invariant
