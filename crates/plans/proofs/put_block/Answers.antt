-- `plans::put_block`: the bytes from lo up to hi.
use Rattle.files.specs.Store.{put_block}
use Rattle.plans.proofs.put_block.Goals as goal

pub returns : goal.returns
unfolding put_block
returns c = rw (c.most-lo.ensures, c.least-hi.ensures) at c.put_bytes.ensures
