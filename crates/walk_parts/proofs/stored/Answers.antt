-- `walk_parts::stored`: the definition's two tests.
use Rattle.walk_parts.proofs.Spots.{stored_other, stored-missing, stored_there}
use Rattle.walk_parts.proofs.stored.Goals as goal

pub returns-then-rec-gt4 : goal.returns-then-rec-gt4
returns-then-rec-gt4 c = stored_other c.args.arena.now c.args.rec _ c.if-rec-gt4.true

pub returns-then-not-exists : goal.returns-then-not-exists
returns-then-not-exists c = stored-missing c.args.arena.now c.args.rec c.if-rec-gt4.false c.exists.ensures _ c.if-not-exists.true

pub returns : goal.returns
returns c = stored_there c.args.arena.now c.args.rec c.if-rec-gt4.false c.exists.ensures c.if-not-exists.false
