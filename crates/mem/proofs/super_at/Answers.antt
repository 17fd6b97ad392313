-- `mem::super_at`: the bytes at its place.
use Rattle.mem.specs.Mem.{super_in}
use Rattle.mem.proofs.super_at.Goals as goal

pub returns : goal.returns
unfolding super_in
returns c = c.super_block_at.ensures
