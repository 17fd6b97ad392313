-- "Sound: all that, free blocks all zero, one head per file, no (file, number) twice, each data block under a head with 480 x number below
-- the length, payload past the length zero." An arena with no metadata file can be sound, and a node file may have a name of zeros.
use Rattle.std.specs.Prelude.{Bool, not, ◌&&◌, ◌||◌, List, ℕ, ◌+◌, ◌*◌, ◌-◌, eqb, ltb}
use Rattle.base.specs.Count.{all_to}
use Rattle.base.specs.Decides.{every}
use Rattle.base.specs.Parts.{part}
use Rattle.arena.specs.Blocks.{blk, blocks}
use Rattle.arena.specs.Fields.{tag_of, which_of, name_of, number_of, file_of, is_free, check_of, stored_check}
use Rattle.arena.specs.Places.{head_of, data_of}

-- every byte is zero
unfoldable pub all_zero : List ℕ → Bool
all_zero l = every (λ x. eqb x 0) l

-- "all that": a block's layout, clause by clause
unfoldable pub layout : List ℕ → Bool
layout b =
    -- "Byte 0: 0 free, 1 head, 2 data"
    ltb (tag_of b) 3
    -- "Byte 1: 0 metadata file, 1 node file"
    && (ltb (which_of b) 2
    -- "2 to 3 zero"
    && (all_zero (part b 2 4)
    -- "4 to 19 file name (zero for metadata)"
    && ((eqb (which_of b) 1 || all_zero (name_of b))
    -- "24 to 503 payload (480 bytes; zero in a head)"
    && ((eqb (tag_of b) 2 || all_zero (part b 24 504))
    -- "504 to 507 zero"
    && (all_zero (part b 504 508)
    -- "508 to 511 the check"
    && eqb (stored_check b) (check_of b))))))

-- a block by itself: the layout, and "free blocks all zero"
unfoldable pub block_sound : List ℕ → Bool
block_sound b = layout b && (not (is_free b) || all_zero b)

-- "one head per file": the lowest head of a head's file is that head
unfoldable pub head_once : List ℕ → ℕ → Bool
head_once a k = not (eqb (tag_of (blk a k)) 1) || eqb (head_of a (file_of (blk a k))) k

-- "no (file, number) twice": the lowest of a data block's file and number is that block
unfoldable pub data_once : List ℕ → ℕ → Bool
data_once a k = not (eqb (tag_of (blk a k)) 2) || eqb (data_of a (file_of (blk a k)) (number_of (blk a k))) k

-- a data block of a file of length len: "480 x number below the length, payload past the length zero"
unfoldable pub within : List ℕ → ℕ → Bool
within b len = ltb (480 * number_of b) len && all_zero (part b (24 + (len - 480 * number_of b)) 504)

-- "each data block under a head", within its length
unfoldable pub under : List ℕ → ℕ → Bool
under a k =
    not (eqb (tag_of (blk a k)) 2)
    || (ltb (head_of a (file_of (blk a k))) (blocks a) && within (blk a k) (number_of (blk a (head_of a (file_of (blk a k))))))

-- all of this of block k
unfoldable pub sound_at : List ℕ → ℕ → Bool
sound_at a k = block_sound (blk a k) && (head_once a k && (data_once a k && under a k))

unfoldable pub sound : List ℕ → Bool
sound a = all_to (λ k. sound_at a k) (blocks a)
