-- `files::store::claim`: the lowest free block is taken, or there is none.
use Rattle.files.proofs.Blocks.{did-claim, did-full}
use Rattle.files.proofs.store.claim.Goals as goal

pub returns-then-k-arena : goal.returns-then-k-arena
returns-then-k-arena c =
    did-full _ _ c.requires.fine.0 _ _ _ c.find_free-k.ensures c.if-k-arena.true

pub returns : goal.returns
returns c =
    did-claim _ _ c.requires.fine.0 _ _ _ c.find_free-k.ensures c.if-k-arena.false c.requires.fine.1 c.requires.b_len c.store.ensures
