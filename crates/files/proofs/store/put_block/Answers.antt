-- `files::store::put_block`: the part of src is the definition's.
use Rattle.files.specs.Store.{put_block}
use Rattle.files.proofs.store.put_block.Goals as goal

pub returns : goal.returns
unfolding put_block
returns c = rw (c.most-lo.ensures, c.least-hi.ensures) at c.write_blk.ensures
