-- What the pieces will answer, told by counting, and what one write makes of the whole part: so the code can decide before any store, and then
-- stores each block once.
use Rattle.std.specs.Prelude.{◌≡◌, true, List, ℕ, ◌+◌, ◌*◌, ◌-◌, ◌/◌, ◌≤◌, ◌<◌, replicate, leb}
use Rattle.base.specs.Out.{refused, bind, answer}
use Rattle.base.specs.Parts.{tab}
use Rattle.base.specs.Reasons.{no_device_space, stuck}
use Rattle.base.specs.Search.{pick}
use Rattle.le.specs.Le.{Bytes}
use Rattle.arena.specs.Fields.{File}
use Rattle.arena.specs.Places.{free_count}
use Rattle.files.specs.Read.{there, length_of, byte_at}
use Rattle.files.specs.Store.{longest, put_file}
use Rattle.files_laws.specs.Laws.{lacking}
use Rattle.pieces.specs.Pieces.{write_zeros, copy_down, copy_up}

-- ---- how many blocks: all of a part's pieces together need the blocks that one write of the whole part needs, in whichever order they are taken

-- 17 where n bytes from pos on lack more blocks than are free
abbrev pub ByRoom : List ℕ → File → ℕ → ℕ → ℕ
ByRoom a f pos n = pick (leb (lacking a f pos n) (free_count a)) 0 no_device_space

unfoldable pub ZerosNeed : Type 0
ZerosNeed = (a : List ℕ) (f : File) (pos n : ℕ) → there a f ≡ true → pos + n ≤ longest → answer (write_zeros a f pos n) ≡ ByRoom a f pos n

unfoldable pub DownNeeds : Type 0
DownNeeds = (a : List ℕ) (f : File) (src dst n : ℕ) → there a f ≡ true → dst + n ≤ longest → src + n ≤ length_of a f
    → answer (copy_down a f src dst n) ≡ ByRoom a f dst n

unfoldable pub UpNeeds : Type 0
UpNeeds = (a : List ℕ) (f : File) (src dst n : ℕ) → there a f ≡ true → dst + n ≤ longest → src + n ≤ length_of a f
    → answer (copy_up a f src dst n) ≡ ByRoom a f dst n

-- an insert: up first, and then zeros over what was there. Together they need what a write from the range's start to the new end needs
unfoldable pub InsertNeeds : Type 0
InsertNeeds = (a : List ℕ) (f : File) (from len n : ℕ) → there a f ≡ true → from + len + n ≤ longest → from + n ≤ length_of a f
    → answer (bind (copy_up a f from (from + len) n) (λ d. write_zeros d f from len)) ≡ ByRoom a f from (len + n)

-- "a file shorter than its size sticks where a piece reads short": falling, that is the first piece
unfoldable pub ShortUp : Type 0
ShortUp = (a : List ℕ) (f : File) (src dst n : ℕ) → there a f ≡ true → 0 < n → length_of a f < src + n → copy_up a f src dst n ≡ refused stuck

-- rising, it is the first that passes the length; but a piece before it may find no block
unfoldable pub ShortDown : Type 0
ShortDown = (a : List ℕ) (f : File) (src dst n : ℕ) → Bytes a → there a f ≡ true → dst ≤ src → 0 < n → length_of a f < src + n
    → answer (copy_down a f src dst n) ≡ pick (leb (lacking a f dst (128 * ((length_of a f - src) / 128))) (free_count a)) stuck no_device_space

-- ---- which bytes: rising pieces together are one write, arena for arena (of falling ones: Made)

unfoldable pub ZerosPut : Type 0
ZerosPut = (a : List ℕ) (f : File) (pos n : ℕ) → pos + n ≤ longest → 0 < n → write_zeros a f pos n ≡ put_file a f pos (replicate n 0)

unfoldable pub DownPut : Type 0
DownPut = (a : List ℕ) (f : File) (src dst n : ℕ) → there a f ≡ true → dst ≤ src → 0 < n → dst + n ≤ longest → src + n ≤ length_of a f
    → copy_down a f src dst n ≡ put_file a f dst (tab (byte_at a f) src n)
