-- `mem::set_blocks`: the number, then the mark.
use mathlib.Core.Path.{ap}
use mathlib.Core.List.{List}
use Prim.Native.Nat.{ℕ, ◌+◌, ◌*◌}
use lib.ListN.{set}
use Rattle.mem.proofs.Fields.{blocks-stored}
use Rattle.mem.proofs.set_blocks.Goals as goal

pub returns : goal.returns
returns c =
    blocks-stored _ _ c.args.i c.args.n c.requires.0 c.requires.1 c.ranges.n.fits (ap (λ (l : List ℕ). set l (117 * c.args.i + 4) 1) c.put_u32.ensures)
