-- `mem::file_at`: the bytes at their place.
use native.Mathlib.Omega.{arith}
use mathlib.Core.Path.{◌∙◌}
use Prim.Native.Nat.{◌+◌, ◌*◌}
use Rattle.base.proofs.Lists.{length_part}
use Rattle.mem.proofs.Fields.{file-read}
use Rattle.mem.proofs.file_at.Goals as goal

pub returns : goal.returns
returns c =
    (file-read c.args.mem.now c.args.i c.requires.1, length_part c.args.mem.now (117 * c.args.i + 85) (117 * c.args.i + 85 + 16) (omega arith) (omega (arith, c.requires.0.size, c.requires.1)) ∙ omega arith)
