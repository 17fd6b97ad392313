-- `calls_fallocate::punch_row`: zeros over the part that lies below the size.
use Rattle.calls_fallocate.proofs.Rows.{punched, punch-planned}
use Rattle.calls_fallocate.proofs.punch_row.Goals as goal

pub put_zeros-requires : goal.put_zeros-requires
put_zeros-requires c = let both = punch-planned c.args.from c.args.len _ c.rec_at-rec.ensures c.below-low.ensures c.below-high.ensures c.requires.1.0 c.requires.1.1 in record { n_bound = both.0; planned = both.1 }

pub returns : goal.returns
returns c =
    punched _ _ c.args.mem.now c.args.i c.args.from c.args.len _ c.rec_at-rec.ensures
    _ _ c.below-low.ensures c.below-high.ensures c.put_zeros.ensures
