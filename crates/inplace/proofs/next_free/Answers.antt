-- `inplace::next_free`: no block below k is free.
use mathlib.Core.Path.{sym, ◌∙◌}
use native.Mathlib.Omega.{arith}
use Rattle.arena.specs.Blocks.{blk}
use Rattle.inplace.proofs.Searches.{free-here, free-later, free-none}
use Rattle.inplace.proofs.next_free.Goals as goal

pub returns-then-is_free : goal.returns-then-is_free
unfolding blk
returns-then-is_free c =
    free-here c.args.arena.now c.loop-k.k c.loop-k.invariant (omega arith) (sym c.is_free.ensures ∙ c.if-is_free.true)

pub loop-k-preserved : goal.loop-k-preserved
unfolding blk
loop-k-preserved c =
    free-later c.args.arena.now c.loop-k.k c.loop-k.invariant (omega arith) (sym c.is_free.ensures ∙ c.if-is_free.false)

pub returns : goal.returns
returns c =
    free-none c.args.arena.now c.loop-k.k c.loop-k.invariant (omega arith)
