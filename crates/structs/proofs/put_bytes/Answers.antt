-- `structs::put_bytes`: the lent part comes back as the bytes that were copied.
use mathlib.Core.Path.{ap}
use mathlib.Core.List.{List}
use Prim.Native.Nat.{ℕ, ◌+◌}
use lib.ListN.{length}
use Rattle.base.specs.Parts.{back, paste}
use Rattle.structs.proofs.put_bytes.Goals as goal

pub returns : goal.returns
unfolding paste
returns c =
    ap (λ (b : List ℕ). back c.args.s.now c.args.at (c.args.at + length c.args.b.now) b) c.copy.ensures
