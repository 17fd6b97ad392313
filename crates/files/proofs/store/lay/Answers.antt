-- `files::store::lay`: the part lent comes back as src.
use Rattle.base.specs.Parts.{paste}
use Rattle.files.proofs.store.lay.Goals as goal

pub returns : goal.returns
unfolding paste
returns c = rw c.copy.ensures
