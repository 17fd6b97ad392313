-- `inventory_report::report`: what was laid in the output is no longer than it.
use native.Mathlib.Omega.{arith}
use lib.ListN.{length-take}
use Rattle.inventory_report.proofs.Printed.{laid-fits}
use Rattle.inventory_report.proofs.report.Goals as goal

pub slice_bounds-out-end : goal.slice_bounds-out-end
slice_bounds-out-end g c = omega (arith, laid-fits _ _ _ c.put_printed-m.ensures.1)

pub slice_bounds-write_all-end : goal.slice_bounds-write_all-end
slice_bounds-write_all-end g c = omega (arith, laid-fits _ _ _ c.put_printed-m.ensures.1, length-take c.put_printed-m.result c.put_printed-m.new.out)
