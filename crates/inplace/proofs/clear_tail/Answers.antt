-- `inplace::clear_tail`: the part lent comes back as the block.
use Rattle.arena.specs.Blocks.{blk, put_blk}
use Rattle.inplace.proofs.clear_tail.Goals as goal

pub returns : goal.returns
unfolding blk put_blk
returns c = rw c.clear_block.ensures
