-- `inplace::edit`: the part lent comes back as the block.
use Rattle.arena.specs.Blocks.{blk, put_blk}
use Rattle.inplace.proofs.edit.Goals as goal

pub returns : goal.returns
unfolding blk put_blk
returns c = rw c.edit_block.ensures
