-- `inplace::write_new`: the part lent comes back as the block.
use Rattle.arena.specs.Blocks.{blk, put_blk}
use Rattle.inplace.proofs.write_new.Goals as goal

pub returns : goal.returns
unfolding blk put_blk
returns c = rw c.new_block.ensures
