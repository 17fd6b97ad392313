-- `fsck_read::one`: a test as a number.
use mathlib.Core.Path.{refl}
use Rattle.base.proofs.Counts.{bit_le}
use Rattle.fsck_read.proofs.one.Goals as goal

pub returns : goal.returns
returns c = (refl, bit_le c.args.b)
