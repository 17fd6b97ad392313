-- `files::store::make`: the block that is claimed is the definition's.
use Rattle.files.specs.Store.{make_file}
use Rattle.files.proofs.store.make.Goals as goal

pub returns : goal.returns
unfolding make_file
returns c = rw c.make_block.ensures at c.claim.ensures
