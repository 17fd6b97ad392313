-- `inplace::edit_block`: the part lent comes back as src, then the check.
use Rattle.base.specs.Parts.{paste}
use Rattle.inplace.proofs.edit_block.Goals as goal

pub returns : goal.returns
unfolding paste
returns c = rw (c.put_check.ensures, c.copy.ensures)
