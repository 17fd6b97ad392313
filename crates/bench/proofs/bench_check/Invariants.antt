-- `bench::bench_check`: before turn k the sum is that of the first k blocks, each below 2^32.
use mathlib.Core.Path.{◌≡◌}
use Prim.Native.Nat.{◌*◌, ◌≤◌}
use Rattle.base.specs.Count.{sum_to}
use Rattle.arena.specs.Blocks.{blk}
use Rattle.arena.specs.Fields.{check_of}
use Rattle.bench.proofs.bench_check.Given as goal

abbrev pub invariant-loop-k : goal.invariant-loop-k
invariant-loop-k l = (l.sum ≡ sum_to (λ j. check_of (blk l.arena j)) l.k) × (l.sum ≤ l.k * 4294967296)
