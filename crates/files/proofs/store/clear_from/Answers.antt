-- `files::store::clear_from`: the part lent comes back as zeros.
use Prim.Native.Nat.{◌+◌, ◌-◌}
use native.Mathlib.Omega.{arith}
use Rattle.base.proofs.Parts.{back-zeros}
use Rattle.files.proofs.store.clear_from.Goals as goal

pub returns : goal.returns
returns c =
    back-zeros c.args.b.now _ (24 + c.args.off) 504 (480 - c.args.off) (omega arith) (omega arith) c.clear.ensures
