-- `folders::fill_hole`: the last slot leaves no hole; another is filled.
use Rattle.folders.proofs.Folders.{hole-none, hole-filled}
use Rattle.folders.proofs.fill_hole.Goals as goal

pub returns-then-k-last : goal.returns-then-k-last
returns-then-k-last c =
    hole-none _ _ _ _ _ _ c.requires.0.fine c.requires.0.whole c.if-k-last.true

pub returns : goal.returns
returns c = hole-filled _ _ _ _ _ _ _ c.if-k-last.false c.put_slot.ensures
