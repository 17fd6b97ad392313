-- `lesson_lib::raw::used`: no more blocks are free than there are.
use Rattle.std.proofs.Common.{◌≡◌, ℕ, ◌≤◌, List, length, arith}
use Rattle.base.proofs.Counts.{count_to-le}
use Rattle.arena.specs.Blocks.{blk, blocks}
use Rattle.arena.specs.Fields.{is_free}
use Rattle.arena.specs.Places.{free_count}
use Rattle.lesson_lib.proofs.raw.used.Goals as goal

free-le : (a : List ℕ) → length a ≡ 8192 → free_count a ≤ 16
unfolding free_count
free-le a e = omega (arith, count_to-le (λ k. is_free (blk a k)) (blocks a))

pub overflow_sub-result : goal.overflow_sub-result
overflow_sub-result c = omega (arith, c.free_count-free.ensures, free-le c.args.arena.now c.requires)
