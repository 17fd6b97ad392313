-- `inplace::new_block`: a block of its own, edited.
use Rattle.inplace.proofs.new_block.Goals as goal

pub returns : goal.returns
returns c = cc
