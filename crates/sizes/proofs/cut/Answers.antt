-- `sizes::cut`: the definition's steps, or the length alone.
use mathlib.Core.Path.{◌≡◌, ◌∙◌}
use native.Mathlib.Omega.{arith}
use Rattle.arena.specs.Blocks.{blk}
use Rattle.arena.specs.Fields.{file, number_of}
use Rattle.files_laws.proofs.Views.{there-at}
use Rattle.sizes.proofs.Sizes.{cut-longer, cut-shorter}
use borrow.Author.Rules.{rules}
use Rattle.sizes.proofs.cut.Goals as goal

pub overflow_mul-o : goal.overflow_mul-o
overflow_mul-o c = omega (arith, there-at c.args.arena.now (file 1 c.args.name.now) c.requires.1.1.0, c.requires.1.0)

pub overflow_add-o : goal.overflow_add-o
overflow_add-o c = omega (arith, there-at c.args.arena.now (file 1 c.args.name.now) c.requires.1.1.0, c.requires.1.0)

pub slice_bounds-u32_at-end : goal.slice_bounds-u32_at-end
slice_bounds-u32_at-end c = omega (arith, there-at c.args.arena.now (file 1 c.args.name.now) c.requires.1.1.0, c.requires.1.0)

pub set_length-requires : goal.set_length-requires
set_length-requires c = omega (arith, there-at c.args.arena.now (file 1 c.args.name.now) c.requires.1.1.0, c.requires.1.0)

pub returns-then-long-n : goal.returns-then-long-n
unfolding blk
returns-then-long-n c =
    let q : c.index-long.result ≡ number_of (blk c.args.arena.now c.args.k) = c.index-long.ensures ∙ c.u32_at.ensures in
    cut-longer c.args.arena.now (file 1 c.args.name.now) c.args.k c.args.n _ c.requires.1.0 c.requires.1.1.0 c.requires.1.1.1 q c.requires.0 (λ j. search rules) c.if-long-n.true _ c.set_length.ensures

pub returns : goal.returns
unfolding blk
returns c =
    let q : c.index-long.result ≡ number_of (blk c.args.arena.now c.args.k) = c.index-long.ensures ∙ c.u32_at.ensures in
    cut-shorter c.args.arena.now (file 1 c.args.name.now) c.args.k c.args.n _ c.requires.1.0 c.requires.1.1.0 c.requires.1.1.1 q _ _ _ c.set_length.ensures c.free_past.ensures c.zero_tail.ensures
