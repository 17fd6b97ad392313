-- `inventory_report::put_too_long`: a copy of the words to the output's start.
use mathlib.Core.Path.{refl}
use native.Mathlib.Omega.{arith}
use lib.ListN.{length-take}
use Rattle.inventory.specs.Inventory.{too_long}
use Rattle.inventory_report.proofs.Printed.{copied}
use Rattle.inventory_report.proofs.put_too_long.Goals as goal

pub slice_bounds-copy-end-2 : goal.slice_bounds-copy-end-2
slice_bounds-copy-end-2 c = omega (arith, length-take 9 c.args.out.now)

pub copy-requires : goal.copy-requires
copy-requires c = omega (arith, length-take 9 c.args.out.now)

pub returns : goal.returns
returns c = (refl, copied c.args.out.now c.copy.new.dst too_long 9 refl c.copy.ensures)
