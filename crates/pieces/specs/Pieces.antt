-- Order 13: "blocks of 128 as in 000". What is copied or made zero inside a file goes in pieces of 128 bytes, each a read and a write of its own,
-- so the arena's blocks are made in the order of the pieces. (000's write_zeros_at and copy_range_to.)
use Rattle.std.specs.Prelude.{List, ℕ, zero, suc, ◌+◌, ◌*◌, ◌-◌, ◌/◌, min, replicate}
use Rattle.base.specs.Out.{Out, done, ◌>>=◌}
use Rattle.arena.specs.Fields.{File}
use Rattle.files.specs.Read.{read_file}
use Rattle.files.specs.Store.{put_file}

-- n bytes are so many pieces; the last to be taken is the rest
abbrev pub pieces : ℕ → ℕ
pieces n = (n + 127) / 128

-- how long the piece is that is taken after k others
abbrev pub piece_len : ℕ → ℕ → ℕ
piece_len n k = min 128 (n - 128 * k)

-- where it begins, counted from the first of the n bytes: pieces taken from the first byte on, rising
abbrev pub rising : ℕ → ℕ
rising k = 128 * k

-- and from the last byte on, falling: it ends where the one before it began, and the last is "the rest at start" (a difference below 0 is 0)
abbrev pub falling : ℕ → ℕ → ℕ
falling n k = n - 128 * suc k

-- ---- zeros: 000's write_zeros_at

-- the first k pieces of n zeros from pos on
unfoldable pub zeros_to : List ℕ → File → ℕ → ℕ → ℕ → Out (List ℕ)
zeros_to a f pos n zero = done a
zeros_to a f pos n (suc k) = do
  d ← zeros_to a f pos n k
  put_file d f (pos + rising k) (replicate (piece_len n k) 0)

-- n zeros from pos on. None touch nothing, "not even a missing file"
unfoldable pub write_zeros : List ℕ → File → ℕ → ℕ → Out (List ℕ)
write_zeros a f pos n = zeros_to a f pos n (pieces n)

-- ---- copies: 000's copy_range_to, its two loops. n bytes that begin at `src` come to begin at `dst`

-- a piece: read_exact_at, then write_all_at. A short read sticks; a full device is 17
unfoldable pub copy_piece : List ℕ → File → ℕ → ℕ → ℕ → Out (List ℕ)
copy_piece a f src dst n = do
  l ← read_file a f src n
  put_file a f dst l

-- towards the start, rising: the first k pieces
unfoldable pub down_to : List ℕ → File → ℕ → ℕ → ℕ → ℕ → Out (List ℕ)
down_to a f src dst n zero = done a
down_to a f src dst n (suc k) = do
  d ← down_to a f src dst n k
  copy_piece d f (src + rising k) (dst + rising k) (piece_len n k)

unfoldable pub copy_down : List ℕ → File → ℕ → ℕ → ℕ → Out (List ℕ)
copy_down a f src dst n = down_to a f src dst n (pieces n)

-- towards the end, falling. "There the Linux fallocate(2) page decides": the last piece is the rest, from `src` itself
unfoldable pub up_to : List ℕ → File → ℕ → ℕ → ℕ → ℕ → Out (List ℕ)
up_to a f src dst n zero = done a
up_to a f src dst n (suc k) = do
  d ← up_to a f src dst n k
  copy_piece d f (src + falling n k) (dst + falling n k) (piece_len n k)

unfoldable pub copy_up : List ℕ → File → ℕ → ℕ → ℕ → Out (List ℕ)
copy_up a f src dst n = up_to a f src dst n (pieces n)
