-- `calls_fallocate::take_out`: nothing, or the move.
use Rattle.calls_fallocate.proofs.Rows.{movable, take_none, take-some}
use Rattle.calls_fallocate.proofs.take_out.Goals as goal

pub returns-then-len-eq0 : goal.returns-then-len-eq0
returns-then-len-eq0 c =
    take_none _ _ c.args.from c.args.len _ c.if-len-eq0.true

pub move_down-requires : goal.move_down-requires
move_down-requires c =
    movable c.args.size c.args.from c.args.len c.requires.0 c.requires.1 c.if-len-eq0.false

pub returns : goal.returns
returns c =
    take-some _ _ c.args.from c.args.len _ _ c.if-len-eq0.false c.move_down.ensures
