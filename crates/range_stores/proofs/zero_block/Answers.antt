-- `range_stores::zero_block`: a part of 480 zeros.
use Rattle.arena.specs.Fields.{file}
use Rattle.range_stores.proofs.Runs.{zeros-block}
use Rattle.range_stores.proofs.zero_block.Goals as goal

pub returns : goal.returns
returns c = (
  zeros-block c.args.arena.now (file 1 c.args.name.now) c.args.pos c.args.n c.args.q _ _ _ c.requires.n_bound.1.0 c.requires.n_bound.1.1
      c.max-s.ensures c.min-e.ensures c.put_bytes.ensures.0,
  c.put_bytes.ensures.1.0,
)
