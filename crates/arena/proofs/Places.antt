-- The laws of the places of blocks, before and after one block is replaced.
use mathlib.Core.Path.{◌≡◌, sym, ap, ◌∙◌, subst}
use mathlib.Core.Bool.{Bool}
use mathlib.Core.List.{List}
use Prim.Native.Nat.{ℕ, ◌+◌, ◌<◌}
use native.Mathlib.Decide.{ℕ_discrete}
use lib.ListN.{length}
use Rattle.base.specs.Count.{count_to, bit}
use Rattle.base.specs.Search.{lowest}
use Rattle.base.proofs.Counts.{count_to-change}
use Rattle.base.proofs.Searches.{First, lowest-first, lowest-cong}
use Rattle.arena.specs.Blocks.{blk, put_blk, blocks}
use Rattle.arena.specs.Fields.{File, is_free, is_head, is_data}
use Rattle.arena.specs.Places.{free_of, head_of, data_of, free_count}
use Rattle.arena.proofs.Blocks.{blocks-put_blk, blk-put_blk-same, blk-put_blk-other}

-- ---- what each search finds

pub free-first : (a : List ℕ) → First (λ k. is_free (blk a k)) (blocks a) (free_of a)
unfolding free_of
free-first a = lowest-first (λ k. is_free (blk a k)) (blocks a)

pub head_first : (a : List ℕ) (f : File) → First (λ k. is_head f (blk a k)) (blocks a) (head_of a f)
unfolding head_of
head_first a f = lowest-first (λ k. is_head f (blk a k)) (blocks a)

pub data-first : (a : List ℕ) (f : File) (q : ℕ) → First (λ k. is_data f q (blk a k)) (blocks a) (data_of a f q)
unfolding data_of
data-first a f q = lowest-first (λ k. is_data f q (blk a k)) (blocks a)

-- ---- block k replaced by b

module _ (a : List ℕ) (k : ℕ) (b : List ℕ) (there : k < blocks a) (size : length b ≡ 512) where
  -- a test that says the same of the old and the new block says the same everywhere
  pub test-put_blk : (P : List ℕ → Bool) → P b ≡ P (blk a k) → (j : ℕ) → P (blk (put_blk a k b) j) ≡ P (blk a j)
  test-put_blk P e j = elim (ℕ_discrete j k) [
    | yes h ↦ subst (λ (i : ℕ). P (blk (put_blk a k b) i) ≡ P (blk a i)) (sym h) (ap P (blk-put_blk-same a k b there size) ∙ e)
    | no h ↦ ap P (blk-put_blk-other a k b there size j h)
  ]

  -- and so its search finds the same
  pub lowest-put_blk : (P : List ℕ → Bool) → P b ≡ P (blk a k) → lowest (λ j. P (blk (put_blk a k b) j)) (blocks (put_blk a k b)) ≡ lowest (λ j. P (blk a j)) (blocks a)
  lowest-put_blk P e =
      ap (lowest (λ j. P (blk (put_blk a k b) j))) (blocks-put_blk a k b there size) ∙ lowest-cong _ _ (blocks a) (λ j _. test-put_blk P e j)

  pub head-put_blk : (f : File) → is_head f b ≡ is_head f (blk a k) → head_of (put_blk a k b) f ≡ head_of a f
  unfolding head_of
  head-put_blk f e = lowest-put_blk (is_head f) e

  -- the free blocks afterwards
  pub count-put_blk : free_count (put_blk a k b) + bit (is_free (blk a k)) ≡ free_count a + bit (is_free b)
  unfolding free_count
  count-put_blk =
      let new : ℕ → Bool = λ j. is_free (blk (put_blk a k b) j) in
      ap (λ (n : ℕ). count_to new n + bit (is_free (blk a k))) (blocks-put_blk a k b there size)
      ∙ count_to-change (λ j. is_free (blk a j)) new (blocks a) k there (λ j ne. sym (ap is_free (blk-put_blk-other a k b there size j ne)))
      ∙ ap (λ (x : List ℕ). count_to (λ j. is_free (blk a j)) (blocks a) + bit (is_free x)) (blk-put_blk-same a k b there size)
