-- How bytes are moved up by the code: falling pieces make absent blocks in another order than one write from the start on does. So the blocks are made
-- first, of zeros and in the pieces' order; after that the whole part is one write.
use Rattle.std.specs.Prelude.{◌≡◌, true, ◌||◌, List, ◌≢◌, ℕ, zero, suc, ◌+◌, ◌-◌, ◌/◌, ◌≤◌, ◌<◌, max, length}
use Rattle.base.specs.Out.{Out, done, bind, ◌>>=◌}
use Rattle.base.specs.Parts.{tab}
use Rattle.base.specs.Search.{pick}
use Rattle.le.specs.Le.{Bytes}
use Rattle.arena.specs.Fields.{File, fresh}
use Rattle.arena.specs.Places.{free_of, head_of, data_of, free_count}
use Rattle.sound.specs.Sound.{sound}
use Rattle.files.specs.Read.{there, length_of, present, byte_at}
use Rattle.files.specs.Store.{longest, claim, raise, put_file}
use Rattle.files_laws.specs.Laws.{Kept, touches, lacking}
use Rattle.pieces.specs.Pieces.{pieces, piece_len, falling, copy_up}

-- block q of the file, made of zeros where it is absent
unfoldable pub made_blk : List ℕ → File → ℕ → Out (List ℕ)
made_blk a f q = pick (present a f q) (done a) (claim a (fresh 2 f q))

-- those of n bytes from pos on, of a piece: one block, or two beside each other
unfoldable pub made_piece : List ℕ → File → ℕ → ℕ → Out (List ℕ)
made_piece a f pos n = do
  d ← made_blk a f (pos / 480)
  made_blk d f ((pos + n - 1) / 480)

-- those of the first k pieces, falling, of n bytes that come to begin at dst; the length is raised first
unfoldable pub made_to : List ℕ → File → ℕ → ℕ → ℕ → Out (List ℕ)
made_to a f dst n zero = done (raise a f (dst + n))
made_to a f dst n (suc k) = do
  d ← made_to a f dst n k
  made_piece d f (dst + falling n k) (piece_len n k)

-- the length was raised to top, and then the blocks of n bytes from pos on were made: a is the arena before, d afterwards
pub record MadeUpto (a : List ℕ) (f : File) (top pos n : ℕ) (d : List ℕ) : Type 0 where
  -- the arena
  pub size : length d ≡ length a
  pub bytes : Bytes d
  pub keeps : sound d ≡ true
  pub free : free_count d + lacking a f pos n ≡ free_count a
  -- the file: no byte of it is another
  pub exists : there d f ≡ true
  pub long : length_of d f ≡ max (length_of a f) top
  pub block : (q : ℕ) → present d f q ≡ (present a f q || touches pos n q)
  pub byte : (p : ℕ) → byte_at d f p ≡ byte_at a f p
  -- what was there stays in its place, and what lies below the lowest free block stays in use
  pub head : head_of d f ≡ head_of a f
  pub place : (q : ℕ) → present a f q ≡ true → data_of d f q ≡ data_of a f q
  pub used : free_of a ≤ free_of d
  -- every other file
  pub others : (g : File) → f ≢ g → Kept a d g

-- all of them, of n bytes that come to begin at dst
abbrev pub Made : List ℕ → File → ℕ → ℕ → List ℕ → Type 0
Made a f dst n m = MadeUpto a f (dst + n) dst n m

unfoldable pub UpPut : Type 0
UpPut = (a : List ℕ) (f : File) (src dst n : ℕ) → sound a ≡ true → Bytes a → there a f ≡ true → src ≤ dst → 0 < n → dst + n ≤ longest → src + n ≤ length_of a f
    → lacking a f dst n ≤ free_count a
    → copy_up a f src dst n ≡ bind (made_to a f dst n (pieces n)) (λ m. put_file m f dst (tab (byte_at a f) src n))
