-- `calls_fallocate::put_in`: nothing, or the move and the hole.
use Rattle.calls_fallocate.proofs.Rows.{insertable, put-none, put_some}
use Rattle.calls_fallocate.proofs.put_in.Goals as goal

pub returns-then-len-eq0 : goal.returns-then-len-eq0
returns-then-len-eq0 c =
    put-none _ _ c.args.from c.args.len _ c.if-len-eq0.true

pub open_hole-requires : goal.open_hole-requires
open_hole-requires c =
    insertable c.args.size c.args.from c.args.len c.requires.0 c.requires.1 c.if-len-eq0.false

pub returns : goal.returns
returns c =
    put_some _ _ c.args.from c.args.len _ _ c.if-len-eq0.false c.open_hole.ensures
