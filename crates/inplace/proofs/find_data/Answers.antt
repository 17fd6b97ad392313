-- `inplace::find_data`: no block below k has it.
use mathlib.Core.Path.{sym, ◌∙◌}
use Prim.Native.Nat.{◌+◌, ◌*◌}
use native.Mathlib.Omega.{arith}
use borrow.Author.Count.{below_more}
use borrow.Author.Rules.{rules}
use Rattle.base.proofs.Lists.{length_part}
use Rattle.base.proofs.Searches.{lowest-here, lowest-none}
use Rattle.arena.specs.Blocks.{blk}
use Rattle.arena.specs.Fields.{file, is_data}
use Rattle.arena.specs.Places.{data_of}
use Rattle.inplace.proofs.find_data.Goals as goal

pub is_data-requires : goal.is_data-requires
is_data-requires c =
    (length_part c.args.arena.now (512 * c.loop-k.k) (512 * c.loop-k.k + 512) (omega arith) (omega arith) ∙ omega arith, search rules)

pub returns-then-is_data : goal.returns-then-is_data
unfolding blk data_of
returns-then-is_data c =
    lowest-here (λ j. is_data (file c.args.which c.args.name.now) c.args.number (blk c.args.arena.now j)) _ c.loop-k.k (omega arith) c.loop-k.invariant (sym c.is_data.ensures ∙ c.if-is_data.true)

pub loop-k-preserved : goal.loop-k-preserved
unfolding blk
loop-k-preserved c =
    below_more _ c.loop-k.k c.loop-k.invariant (sym c.is_data.ensures ∙ c.if-is_data.false)

pub returns : goal.returns
unfolding data_of
returns c =
    lowest-none (λ j. is_data (file c.args.which c.args.name.now) c.args.number (blk c.args.arena.now j)) _ (λ j h. c.loop-k.invariant j (omega arith))
