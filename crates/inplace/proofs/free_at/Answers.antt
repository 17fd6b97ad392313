-- `inplace::free_at`: the part lent comes back as zeros, or nothing is done.
use mathlib.Core.Path.{◌≡◌, ◌∙◌}
use Prim.Native.Nat.{◌+◌, ◌*◌}
use native.Mathlib.Omega.{arith}
use lib.ListN.{length}
use Rattle.base.specs.Parts.{part}
use Rattle.base.proofs.Lists.{length_part}
use Rattle.arena.specs.Blocks.{put_blk}
use Rattle.arena.specs.Fields.{zeros}
use Rattle.inplace.proofs.free_at.Goals as goal

pub returns-then-not-yes : goal.returns-then-not-yes
returns-then-not-yes c = rw c.if-not-yes.true

pub returns : goal.returns
unfolding put_blk zeros
returns c =
    let a = c.args.arena.now in
    let n : length (part a (512 * c.args.k) (512 * c.args.k + 512)) ≡ 512 = length_part a (512 * c.args.k) (512 * c.args.k + 512) (omega arith) (omega arith) ∙ omega arith in
    rw (c.if-not-yes.false, c.clear.ensures, n)
