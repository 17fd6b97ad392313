-- How the code finds a head or a data block without a search of all blocks: the used blocks of one hash are a chain, the latest first.
-- Nothing here is part of what sound means.
use Rattle.std.specs.Prelude.{◌≡◌, Bool, true, false, not, ◌&&◌, List, ℕ, ◌+◌, ◌*◌, ◌/◌, ◌%◌, ◌<◌, get_or, eqb}
use Rattle.base.specs.Parts.{part}
use Rattle.base.specs.Search.{last}
use Rattle.le.specs.Le.{le_at}
use Rattle.arena.specs.Blocks.{blk}
use Rattle.arena.specs.Fields.{File, tag_of, which_of, name_of, number_of, is_free, is_head, is_data}
use Rattle.sound.specs.Sound.{block_sound, head_once, data_once}

-- a block's key: its file, and of a data block its number
abbrev pub is_key : Bool → File → ℕ → List ℕ → Bool
is_key true f q b = is_head f b
is_key false f q b = is_data f q b

-- a key's hash: its words and its number, weighed, and spread over 4,096 buckets
unfoldable pub file_hash : ℕ → List ℕ → ℕ
file_hash w nm = le_at nm 0 4 * 433494437 + le_at nm 4 4 * 479001599 + le_at nm 8 4 * 334214459 + le_at nm 12 4 * 387420489 + w * 179424673

abbrev pub bucket_of : ℕ → ℕ
bucket_of x = x / 67108864 % 4096

unfoldable pub hash_key : Bool → ℕ → List ℕ → ℕ → ℕ
hash_key true w nm q = bucket_of (file_hash w nm)
hash_key false w nm q = bucket_of (file_hash w nm + (q * 331804471 + 268435399))

unfoldable pub hash_of : List ℕ → ℕ
hash_of b = hash_key (eqb (tag_of b) 1) (which_of b) (name_of b) (number_of b)

-- block j is used and has hash h
unfoldable pub in_bucket : List ℕ → ℕ → ℕ → Bool
in_bucket a h j = not (is_free (blk a j)) && eqb (hash_of (blk a j)) h

-- the chains of the first k blocks. An entry is a block's number and 1, or 0 for none: next leads from a block to the latest before it of
-- its bucket, first to the latest of all
pub record Chains (a first next : List ℕ) (k : ℕ) : Type 0 where
  pub starts : (h : ℕ) → h < 4096 → get_or first h 0 ≡ last (in_bucket a h) k
  pub links : (j : ℕ) → j < k → is_free (blk a j) ≡ false → get_or next j 0 ≡ last (in_bucket a (hash_of (blk a j))) j

-- the code that makes the chains has both in one array of 8,192 entries: first, then next
abbrev pub firsts : List ℕ → List ℕ
firsts c = part c 0 4096

abbrev pub nexts : List ℕ → List ℕ
nexts c = part c 4096 8192

-- what is known of block k once it has joined the chains
unfoldable pub alone : List ℕ → ℕ → Bool
alone a k = block_sound (blk a k) && (head_once a k && data_once a k)
