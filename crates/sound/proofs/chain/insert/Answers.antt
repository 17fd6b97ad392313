-- `sound::chain::insert`: the first store leaves the length.
use Prim.Native.Nat.{◌+◌}
use native.Mathlib.Omega.{arith}
use lib.ListN.{get_or}
use lib.Seq.{lt-length-set}
use Rattle.sound.proofs.chain.insert.Goals as goal

pub bounds-chains-h-2 : goal.bounds-chains-h-2
bounds-chains-h-2 c =
    let l = c.args.chains.now in
    lt-length-set l (4096 + c.args.k) (get_or l c.args.h 0) (omega arith)
