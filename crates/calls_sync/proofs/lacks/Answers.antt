-- `calls_sync::lacks`: a block below `from` is not lacking, and one that is found is there.
use Rattle.calls_sync.proofs.Rooms.{lacks-below, lacks-there, lacks-gone}
use Rattle.calls_sync.proofs.lacks.Goals as goal

pub returns-then-q-from : goal.returns-then-q-from
returns-then-q-from c = lacks-below _ _ _ c.if-q-from.true

pub returns-then-find_data-arena : goal.returns-then-find_data-arena
returns-then-find_data-arena c = lacks-there _ _ c.requires.0 _ _ _ c.find_data.ensures c.if-find_data-arena.true

pub returns : goal.returns
returns c = lacks-gone _ _ c.requires.0 _ _ _ c.find_data.ensures c.if-q-from.false c.if-find_data-arena.false
