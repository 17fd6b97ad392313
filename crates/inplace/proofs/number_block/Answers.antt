-- `inplace::number_block`: four bytes, and the check.
use Rattle.inplace.proofs.number_block.Goals as goal

pub returns : goal.returns
returns c = cc
