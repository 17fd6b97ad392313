-- `bench::bench_check`: the sum of one block more.
use mathlib.Core.Path.{refl, ap₂, ◌∙◌, sym}
use Prim.Native.Nat.{ℕ, ◌+◌}
use native.Mathlib.Omega.{arith}
use Rattle.base.specs.Count.{sum_to}
use Rattle.base.proofs.Counts.{sum_to-more}
use Rattle.arena.specs.Blocks.{blk}
use Rattle.arena.specs.Fields.{check_of}
use Rattle.bench.proofs.bench_check.Goals as goal

pub loop-k-init : goal.loop-k-init
unfolding sum_to
loop-k-init c = (refl, omega arith)

pub loop-k-preserved : goal.loop-k-preserved
unfolding blk
loop-k-preserved c =
    let check : ℕ → ℕ = λ j. check_of (blk c.args.arena.now j) in (
      ap₂ (λ (a b : ℕ). a + b) c.loop-k.invariant.0 (c.from-sum.ensures ∙ c.block_check.ensures) ∙ sym (sum_to-more check c.loop-k.k),
      omega arith,
    )
