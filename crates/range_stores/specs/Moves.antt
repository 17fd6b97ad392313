-- What is known before bytes are moved inside a node's file, once nothing can refuse it.
use Rattle.std.specs.Prelude.{◌≡◌, true, List, ℕ, ◌+◌, ◌-◌, ◌/◌, ◌≤◌, ◌<◌, length, get_or}
use Rattle.base.specs.Out.{Out, done}
use Rattle.arena.specs.Blocks.{blocks}
use Rattle.arena.specs.Fields.{File}
use Rattle.arena.specs.Places.{free_of, head_of}
use Rattle.sound.specs.Sound.{sound}
use Rattle.files.specs.Read.{there, length_of, present, byte_at}
use Rattle.files.specs.Store.{longest, touched}
use Rattle.files_laws.specs.Laws.{touches}
use Rattle.pieces.specs.Pieces.{pieces}
use Rattle.pieces.specs.Made.{made_piece, made_to}
use Rattle.chains.specs.Led.{block_at}
use Rattle.plans.specs.Plan.{Places, Planned, Sourced}

-- n bytes from src on can be moved to dst: the file, whose head is block k, has them, and it is known where the blocks are that are read and written
pub record Movable (a : List ℕ) (f : File) (k src dst n : ℕ) (places source : List ℕ) : Type 0 where
  pub most : blocks a ≤ 4096
  pub fine : sound a ≡ true
  pub exists : there a f ≡ true
  pub head : k ≡ head_of a f
  pub some : 0 < n
  pub long : src + n ≤ length_of a f
  pub range : dst + n ≤ longest
  pub plan : Planned a f dst n places
  pub read : Sourced a f src n source

-- len bytes can be put in before the n bytes from `from` on
pub record Insertable (a : List ℕ) (f : File) (k from len n : ℕ) (places source : List ℕ) : Type 0 where
  pub most : blocks a ≤ 4096
  pub fine : sound a ≡ true
  pub exists : there a f ≡ true
  pub head : k ≡ head_of a f
  pub some : 0 < n
  pub long : from + n ≤ length_of a f
  pub range : from + len + n ≤ longest
  pub plan : Planned a f from (len + n) places
  pub read : Sourced a f from n source

-- ---- the blocks of bytes that move up, before any of them moves

-- it is not refused
abbrev pub IsDone : Out (List ℕ) → Type 0
IsDone o = (d : List ℕ) × (o ≡ done d)

-- a plan that begins with block `first`: where it has a block's place in a, it now has that in d
abbrev pub UpToDate : List ℕ → List ℕ → File → ℕ → List ℕ → List ℕ → Type 0
UpToDate a d f first was is = (i : ℕ) → get_or was i 0 ≡ block_at a f (first + i) → get_or is i 0 ≡ block_at d f (first + i)

-- the blocks of a piece of n bytes from pos on can be made: the plan, which begins with block `first`, has where they are, and none below `from` is free
pub record PieceMakable (a : List ℕ) (f : File) (pos n first from : ℕ) (plan : List ℕ) : Type 0 where
  pub most : blocks a ≤ 4096
  pub exists : there a f ≡ true
  pub some : 0 < n
  pub range : pos + n ≤ longest
  pub low : first ≤ pos / 480
  pub high : (pos + n - 1) / 480 < first + length plan
  pub start : get_or plan (pos / 480 - first) 0 ≡ block_at a f (pos / 480)
  pub end : get_or plan ((pos + n - 1) / 480 - first) 0 ≡ block_at a f ((pos + n - 1) / 480)
  pub used : from ≤ free_of a
  pub goes : IsDone (made_piece a f pos n)

-- and those of n bytes that come to begin at dst, which is within the length
pub record Makable (a : List ℕ) (f : File) (dst n : ℕ) (plan : List ℕ) : Type 0 where
  pub most : blocks a ≤ 4096
  pub exists : there a f ≡ true
  pub long : dst + n ≤ length_of a f
  pub range : dst + n ≤ longest
  pub few : touched dst n ≤ length plan
  pub places : Places a f dst plan (touched dst n)
  pub goes : IsDone (made_to a f dst n (pieces n))

-- ---- what is read

-- the places by which n bytes from src on are read: where a block is, or 0 where it is absent or was made of zeros
pub record Readable (a : List ℕ) (f : File) (src n : ℕ) (source : List ℕ) : Type 0 where
  pub few : touched src n ≤ length source
  pub at : (i : ℕ) → i < touched src n → 0 < get_or source i 0 → get_or source i 0 ≡ block_at a f (src / 480 + i)
  pub zero : (p : ℕ) → src ≤ p → p < src + n → get_or source (p / 480 - src / 480) 0 ≡ 0 → byte_at a f p ≡ 0

-- n bytes from src on can be moved up to dst over bytes of the file whose blocks are all there
pub record Fillable (a : List ℕ) (f : File) (src dst n : ℕ) (plan source : List ℕ) : Type 0 where
  pub fine : sound a ≡ true
  pub exists : there a f ≡ true
  pub some : 0 < n
  pub back : src ≤ dst
  pub long : dst + n ≤ length_of a f
  pub here : (q : ℕ) → touches dst n q ≡ true → present a f q ≡ true
  pub few : touched dst n ≤ length plan
  pub places : Places a f dst plan (touched dst n)
  pub read : Readable a f src n source
