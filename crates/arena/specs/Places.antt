-- Where a block is: the lowest of its kind, or the number of blocks where there is none.
use Rattle.std.specs.Prelude.{List, ℕ}
use Rattle.base.specs.Count.{count_to}
use Rattle.base.specs.Search.{lowest}
use Rattle.arena.specs.Blocks.{blk, blocks}
use Rattle.arena.specs.Fields.{File, is_free, is_head, is_data}

-- "a new block is the lowest free one"
unfoldable pub free_of : List ℕ → ℕ
free_of a = lowest (λ k. is_free (blk a k)) (blocks a)

unfoldable pub head_of : List ℕ → File → ℕ
head_of a f = lowest (λ k. is_head f (blk a k)) (blocks a)

unfoldable pub data_of : List ℕ → File → ℕ → ℕ
data_of a f q = lowest (λ k. is_data f q (blk a k)) (blocks a)

-- how many blocks are free
unfoldable pub free_count : List ℕ → ℕ
free_count a = count_to (λ k. is_free (blk a k)) (blocks a)
