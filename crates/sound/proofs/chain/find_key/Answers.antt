-- `sound::chain::find_key`: no block from c on has the key, and c leads along the bucket.
use mathlib.Core.Path.{◌∙◌}
use Prim.Native.Nat.{◌-◌, ◌<◌}
use native.Mathlib.Omega.{arith}
use Rattle.arena.specs.Blocks.{blk}
use Rattle.arena.specs.Fields.{file}
use Rattle.arena.proofs.Blocks.{length-blk}
use Rattle.sound.proofs.Chains.{Walk, walk_start, walk-on, walk-found, walk_end}
use Rattle.sound.proofs.chain.find_key.Goals as goal
use Rattle.sound.proofs.chain.find_key.Goals.{After-index16-c}

pub loop-c-init : goal.loop-c-init
loop-c-init c =
    walk_start c.args.arena.now c.args.head (file c.args.which c.args.name.now) c.args.number c.args.k c.args.start c.requires.start_value

pub is_key-requires : goal.is_key-requires
unfolding blk
is_key-requires c =
    (length-blk c.args.arena.now (c.loop-c.c - 1) (omega (arith, c.loop-c.invariant.most)), c.requires.name_len.0)

pub returns-then-is_key : goal.returns-then-is_key
unfolding blk
returns-then-is_key c =
    walk-found c.args.arena.now c.args.head (file c.args.which c.args.name.now) c.args.number c.args.k c.loop-c.c c.loop-c-test.true c.loop-c.invariant c.is_key.ensures c.if-is_key.true

pub offset_bounds-next-j : goal.offset_bounds-next-j
offset_bounds-next-j c =
    omega (arith, c.loop-c.invariant.most, c.requires.name_len.1.0, c.well_formed.0)

-- a turn goes on to the block before in the chain
turn : (c : After-index16-c) →
    Walk c.args.arena.now c.args.head (file c.args.which c.args.name.now) c.args.number c.args.k c.index16-c.result × (c.index16-c.result < c.loop-c.c)
unfolding blk
turn c =
    walk-on c.args.arena.now c.args.head (file c.args.which c.args.name.now) c.args.number c.args.k c.loop-c.c c.index16-c.result c.loop-c-test.true c.loop-c.invariant c.is_key.ensures c.if-is_key.false
    (λ used. c.index16-c.ensures ∙ c.requires.by_index (c.loop-c.c - 1) (omega (arith, c.loop-c.invariant.most, c.loop-c-test.true)) used)

pub loop-c-smaller : goal.loop-c-smaller
loop-c-smaller c = (turn (goal.at.loop-c-smaller c).After-index16-c).1

pub loop-c-preserved : goal.loop-c-preserved
loop-c-preserved c = (turn (goal.at.loop-c-preserved c).After-index16-c).0

pub returns : goal.returns
returns c =
    walk_end c.args.arena.now c.args.head (file c.args.which c.args.name.now) c.args.number c.args.k c.loop-c.c c.loop-c-test.false c.loop-c.invariant
