-- `files::store::write_new`: the block that is claimed is the definition's.
use Rattle.files.proofs.store.write_new.Goals as goal

pub returns : goal.returns
returns c = rw (c.lay.ensures, c.make_block.ensures) at c.claim.ensures
