-- `fsck_read::name_of`: a name ends within its 256 bytes.
use native.Mathlib.Omega.{arith}
use Rattle.fsck_read.proofs.Names.{zero-most, name-is}
use Rattle.fsck_read.proofs.name_of.Goals as goal

pub overflow_add-n : goal.overflow_add-n
overflow_add-n c =
    omega (arith, zero-most c.args.slot.now c.first_zero-n.result c.requires c.first_zero-n.ensures)

pub slice_bounds-result-end : goal.slice_bounds-result-end
slice_bounds-result-end c =
    omega (arith, c.requires, zero-most c.args.slot.now c.first_zero-n.result c.requires c.first_zero-n.ensures)

pub returns : goal.returns
returns c =
    name-is c.args.slot.now c.first_zero-n.result c.requires c.first_zero-n.ensures
