-- `climbs::not_below`: the folders' ids, the moved node's type, then the climb.
use Rattle.climbs.proofs.Climbs.{below-within, below_other, below-climb}
use Rattle.climbs.proofs.not_below.Goals as goal

pub returns-then-id_at : goal.returns-then-id_at
returns-then-id_at c =
    below-within _ _ c.args.i c.args.j c.args.c _ _ c.id_at.ensures c.id_at-2.ensures c.if-id_at.true

pub returns-then-rec_at-ne2 : goal.returns-then-rec_at-ne2
returns-then-rec_at-ne2 c =
    below_other _ _ c.args.i c.args.j c.args.c _ _ c.id_at.ensures c.id_at-2.ensures c.if-id_at.false _ c.rec_at.ensures c.if-rec_at-ne2.true

pub rec_at-requires-2 : goal.rec_at-requires-2
rec_at-requires-2 c =
    (c.requires.whole.0, c.requires.whole.1.1.0)

pub climb-requires : goal.climb-requires
climb-requires c = record { led = c.requires.led; whole = c.requires.whole.0 }

pub returns : goal.returns
returns c =
    below-climb _ _ c.args.i c.args.j c.args.c _ _ c.id_at.ensures c.id_at-2.ensures c.if-id_at.false _ c.rec_at.ensures c.if-rec_at-ne2.false _ _ _ c.id_at-3.ensures c.id_at-4.ensures c.rec_at-2.ensures c.climb.ensures
