-- How many blocks of a file can be there, and how many free ones a write may need.
use mathlib.Core.Path.{◌≡◌, ap}
use mathlib.Core.List.{List}
use mathlib.Core.Logic.{⊎_elim}
use Prim.Native.Nat.{ℕ, zero, suc, ◌+◌, ◌/◌, ◌≤◌, ◌<◌}
use native.Mathlib.Omega.{arith}
use Rattle.base.specs.Count.{sum_to, count_to, bit}
use Rattle.base.proofs.Bools.{bool_cases}
use Rattle.base.proofs.Counts.{sum_to-le, sum_to-add, sum_to-one, sum_to-swap, count_to-none, bit_le}
use Rattle.base.proofs.Finds.{count_to-suc, count_to-some, count_to-not}
use Rattle.base.proofs.Sames.{test-fails}
use Rattle.arena.specs.Blocks.{blk, blocks}
use Rattle.arena.specs.Fields.{File, is_free, is_data}
use Rattle.arena.specs.Places.{data_of, free_count}
use Rattle.arena.proofs.Fields.{data_is, data-not, free-is}
use Rattle.files.specs.Read.{present}
use Rattle.files.specs.Store.{touched}
use Rattle.files_laws.specs.Laws.{lacking}
use Rattle.files_laws.proofs.Views.{present-at, present-hit}

module _ (a : List ℕ) (f : File) (q : ℕ) where
  -- a block is one of a file's blocks at most
  one_number : (b : List ℕ) (n : ℕ) → count_to (λ i. is_data f (q + i) b) n ≤ 1
  unfolding count_to sum_to
  one_number b zero = omega arith
  one_number b (suc n) =
      ⊎_elim
      (λ e.
      let z : count_to (λ i. is_data f (q + i) b) n ≡ 0 =
      count_to-none (λ i. is_data f (q + i) b) n (λ i l.
      test-fails (is_data f (q + i) b) (λ h. omega (arith, (data_is f (q + i) b h).number, (data_is f (q + n) b e).number))) in
      omega (arith, ap bit e, count_to-suc (λ i. is_data f (q + i) b) n))
      (λ e. omega (arith, ap bit e, one_number b n, count_to-suc (λ i. is_data f (q + i) b) n))
      (bool_cases (is_data f (q + n) b))

  -- and then it is not free
  one-use : (b : List ℕ) (n : ℕ) → count_to (λ i. is_data f (q + i) b) n + bit (is_free b) ≤ 1
  one-use b n =
      ⊎_elim
      (λ e.
      let z : count_to (λ i. is_data f (q + i) b) n ≡ 0 =
      count_to-none (λ i. is_data f (q + i) b) n (λ i l. data-not f (q + i) b (λ t. absurd (omega (arith, free-is b e)))) in
      omega (arith, bit_le (is_free b)))
      (λ e. omega (arith, ap bit e, one_number b n))
      (bool_cases (is_free b))

  -- a block that is there is one of the arena's
  one_block : (i : ℕ) → bit (present a f (q + i)) ≤ count_to (λ k. is_data f (q + i) (blk a k)) (blocks a)
  one_block i =
      ⊎_elim
      (λ e. omega (arith, ap bit e, count_to-some (λ k. is_data f (q + i) (blk a k)) (blocks a) (data_of a f (q + i)) (present-at a f (q + i) e) (present-hit a f (q + i) e)))
      (λ e. omega (arith, ap bit e))
      (bool_cases (present a f (q + i)))

  -- of any n blocks of a file, those that are there and the free ones are no more than there are blocks
  pub present-count : (n : ℕ) → count_to (λ i. present a f (q + i)) n + free_count a ≤ blocks a
  unfolding count_to free_count
  present-count n =
      omega (
        arith,
        sum_to-le (λ i. bit (present a f (q + i))) (λ i. sum_to (λ k. bit (is_data f (q + i) (blk a k))) (blocks a)) n (λ i l. one_block i),
        sum_to-swap (λ i k. bit (is_data f (q + i) (blk a k))) n (blocks a),
        sum_to-add (λ k. sum_to (λ i. bit (is_data f (q + i) (blk a k))) n) (λ k. bit (is_free (blk a k))) (blocks a),
        sum_to-le (λ k. sum_to (λ i. bit (is_data f (q + i) (blk a k))) n + bit (is_free (blk a k))) (λ k. 1) (blocks a) (λ k l. one-use (blk a k) n),
        sum_to-one (blocks a),
      )

-- a write that touches more blocks than there are needs more than are free
pub lacking-many : (a : List ℕ) (f : File) (pos n : ℕ) → blocks a < touched pos n → free_count a < lacking a f pos n
unfolding lacking
lacking-many a f pos n l = omega (arith, present-count a f (pos / 480) (touched pos n), count_to-not (λ i. present a f (pos / 480 + i)) (touched pos n))
