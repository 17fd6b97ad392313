-- `table_bytes::put_holds`: the first i are laid over what was there.
use mathlib.Core.Path.{◌≡◌}
use lib.ListN.{get_or}
use Rattle.base.specs.Parts.{paste}
use Rattle.table.specs.Zero.{zero_hold}
use Rattle.table_bytes.specs.Runs.{run_to}
use Rattle.table_bytes.specs.Layout.{hold_bytes}
use Rattle.table_bytes.proofs.put_holds.Given as goal

abbrev pub invariant-loop-i : goal.invariant-loop-i
invariant-loop-i l = l.out ≡ paste l.initial.out 3978 (run_to (λ j. hold_bytes (get_or l.fn.holds j zero_hold)) l.i)
