-- Files in an arena, read. `a` is any arena, as a list of bytes; `f` is the metadata file or a node file.
use Rattle.std.specs.Prelude.{Bool, List, ℕ, ◌+◌, ◌/◌, ◌%◌, get_or, ltb, leb}
use Rattle.base.specs.Out.{Out, done, guard}
use Rattle.base.specs.Parts.{tab}
use Rattle.base.specs.Search.{pick}
use Rattle.base.specs.Reasons.{stuck}
use Rattle.arena.specs.Blocks.{blk, blocks}
use Rattle.arena.specs.Fields.{File, number_of}
use Rattle.arena.specs.Places.{head_of, data_of}

-- a file is there where it has a head
unfoldable pub there : List ℕ → File → Bool
there a f = ltb (head_of a f) (blocks a)

-- "20 to 23: length in a head"
unfoldable pub length_of : List ℕ → File → ℕ
length_of a f = pick (there a f) (number_of (blk a (head_of a f))) 0

-- block q of the file is there
unfoldable pub present : List ℕ → File → ℕ → Bool
present a f q = ltb (data_of a f q) (blocks a)

-- byte p of the file: byte p % 480 of the payload of block p / 480. "An absent block reads as zeros."
unfoldable pub byte_at : List ℕ → File → ℕ → ℕ
byte_at a f p = pick (present a f (p / 480)) (get_or (blk a (data_of a f (p / 480))) (24 + p % 480) 0) 0

-- n bytes from pos on. "Stuck is .. a short read, a missing file"
unfoldable pub read_file : List ℕ → File → ℕ → ℕ → Out (List ℕ)
read_file a f pos n = guard (there a f) stuck (guard (leb (pos + n) (length_of a f)) stuck (done (tab (byte_at a f) pos n)))
