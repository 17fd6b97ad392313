-- The four stores: put, cut, make, drop. These are the only ways in which anything changes an arena.
use Rattle.std.specs.Prelude.{Bool, ◌&&◌, ◌||◌, List, ℕ, zero, suc, ◌+◌, ◌*◌, ◌-◌, ◌/◌, ◌%◌, min, max, length, replicate, ltb, leb}
use Rattle.base.specs.Out.{Out, done, bind, guard}
use Rattle.base.specs.Parts.{part, paste}
use Rattle.base.specs.Reasons.{no_device_space, stuck}
use Rattle.base.specs.Search.{pick}
use Rattle.le.specs.Le.{le_put}
use Rattle.arena.specs.Blocks.{blk, put_blk, blocks}
use Rattle.arena.specs.Fields.{File, number_of, seal, zeros, fresh, is_head, is_data}
use Rattle.arena.specs.Places.{free_of, head_of, data_of}
use Rattle.files.specs.Read.{there, length_of, present}

-- 17, "a length over 4,294,967,295"
abbrev pub longest : ℕ
longest = 4294967295

-- ---- one block

-- a new block: "the lowest free one"; 17, "a store needs a block and none is free"
unfoldable pub claim : List ℕ → List ℕ → Out (List ℕ)
claim a b = guard (ltb (free_of a) (blocks a)) no_device_space (done (put_blk a (free_of a) (seal b)))

-- bytes in block q of the file from `off` on, in the block that is there or in a new one
unfoldable pub write_blk : List ℕ → File → ℕ → ℕ → List ℕ → Out (List ℕ)
write_blk a f q off src =
    pick (present a f q)
    (done (put_blk a (data_of a f q) (seal (paste (blk a (data_of a f q)) (24 + off) src))))
    (claim a (paste (fresh 2 f q) (24 + off) src))

-- the head with another length
unfoldable pub set_length : List ℕ → File → ℕ → List ℕ
set_length a f len = put_blk a (head_of a f) (seal (le_put (blk a (head_of a f)) 20 4 len))

-- ---- put: "A write raises the length to its end and makes the blocks that it touches, in rising order"

unfoldable pub raise : List ℕ → File → ℕ → List ℕ
raise a f len = pick (ltb (length_of a f) len) (set_length a f len) a

-- the part of block q that a run of n bytes from pos on covers: from lo up to hi
abbrev pub lo : ℕ → ℕ → ℕ
lo pos q = max pos (480 * q)

abbrev pub hi : ℕ → ℕ → ℕ → ℕ
hi pos n q = min (pos + n) (480 * q + 480)

-- its bytes in block q
unfoldable pub put_block : List ℕ → File → ℕ → List ℕ → ℕ → Out (List ℕ)
put_block a f pos src q = write_blk a f q (lo pos q - 480 * q) (part src (lo pos q - pos) (hi pos (length src) q - pos))

-- its first i blocks
unfoldable pub put_to : List ℕ → File → ℕ → List ℕ → ℕ → Out (List ℕ)
put_to a f pos src zero = done (raise a f (pos + length src))
put_to a f pos src (suc i) = bind (put_to a f pos src i) (λ d. put_block d f pos src (pos / 480 + i))

-- how many blocks it touches: none, or those from its first byte's to its last byte's
unfoldable pub touched : ℕ → ℕ → ℕ
touched pos zero = 0
touched pos (suc n) = (pos + n) / 480 + 1 - pos / 480

unfoldable pub put_file : List ℕ → File → ℕ → List ℕ → Out (List ℕ)
put_file a f pos src =
    guard (there a f) stuck (guard (leb (pos + length src) longest) no_device_space (put_to a f pos src (touched pos (length src))))

-- ---- make: a head, of length 0

unfoldable pub make_file : List ℕ → File → Out (List ℕ)
make_file a f = claim a (fresh 1 f 0)

-- ---- blocks that satisfy p become free: of the first n, and all

unfoldable pub clear_to : (List ℕ → Bool) → List ℕ → ℕ → List ℕ
clear_to p a zero = a
clear_to p a (suc n) = pick (p (blk a n)) (put_blk (clear_to p a n) n zeros) (clear_to p a n)

unfoldable pub clear_all : (List ℕ → Bool) → List ℕ → List ℕ
clear_all p a = clear_to p a (blocks a)

-- ---- cut: "Shortening frees blocks wholly past the end and zeroes the tail"

-- a data block of the file that lies wholly past len
unfoldable pub is_past : File → ℕ → List ℕ → Bool
is_past f len b = is_data f (number_of b) b && leb len (480 * number_of b)

-- the bytes past len in the block that len falls into
unfoldable pub zero_tail : List ℕ → File → ℕ → List ℕ
zero_tail a f len =
    pick (present a f (len / 480))
    (put_blk a (data_of a f (len / 480)) (seal (paste (blk a (data_of a f (len / 480))) (24 + len % 480) (replicate (480 - len % 480) 0))))
    a

unfoldable pub cut_file : List ℕ → File → ℕ → Out (List ℕ)
cut_file a f len = guard (there a f) stuck (guard (leb len longest) no_device_space (done (zero_tail (clear_all (is_past f len) (set_length a f len)) f len)))

-- ---- drop: all its blocks become zero

unfoldable pub is_of : File → List ℕ → Bool
is_of f b = is_head f b || is_data f (number_of b) b

unfoldable pub drop_file : List ℕ → File → Out (List ℕ)
drop_file a f = guard (there a f) stuck (done (clear_all (is_of f) a))
