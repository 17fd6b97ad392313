-- What each of the four stores does, said by what a file is: whether it is there, its length, which of its blocks are there, and its bytes.
-- In each record, a is the arena before and a' the arena afterwards.
use Rattle.std.specs.Prelude.{◌≡◌, Bool, true, false, not, ◌&&◌, ◌||◌, List, ◌≢◌, ℕ, ◌+◌, ◌*◌, ◌-◌, ◌/◌, ◌≤◌, ◌<◌, max, length, get_or, ltb}
use Rattle.base.specs.Count.{count_to}
use Rattle.base.specs.Reasons.{no_device_space, stuck}
use Rattle.le.specs.Le.{Bytes}
use Rattle.arena.specs.Blocks.{blk, blocks}
use Rattle.arena.specs.Fields.{File}
use Rattle.arena.specs.Places.{free_count}
use Rattle.sound.specs.Sound.{sound}
use Rattle.files.specs.Read.{there, length_of, present, byte_at}
use Rattle.files.specs.Store.{longest, lo, hi, touched, is_past, is_of}

-- a file's name: "0 metadata file, 1 node file", "file name (zero for metadata)", 16 bytes
pub record Named (f : File) : Type 0 where
  pub kind : f.which < 2
  pub size : length f.name ≡ 16
  pub bytes : Bytes f.name
  pub zero : f.which ≢ 1 → (i : ℕ) → get_or f.name i 0 ≡ 0

-- file g is as it was
pub record Kept (a a' : List ℕ) (g : File) : Type 0 where
  pub exists : there a' g ≡ there a g
  pub long : length_of a' g ≡ length_of a g
  pub block : (q : ℕ) → present a' g q ≡ present a g q
  pub byte : (p : ℕ) → byte_at a' g p ≡ byte_at a g p

-- what soundness says of a file: it is there if it has blocks, they lie below its length, and past its length there are zeros
pub record Inside (a : List ℕ) (g : File) : Type 0 where
  pub under : (q : ℕ) → present a g q ≡ true → (there a g ≡ true) × (480 * q < length_of a g)
  pub past : (p : ℕ) → length_of a g ≤ p → byte_at a g p ≡ 0

-- ---- counts of blocks

-- n bytes from pos on have a byte in block q
abbrev pub touches : ℕ → ℕ → ℕ → Bool
touches pos n q = ltb (lo pos q) (hi pos n q)

-- how many of the blocks that n bytes from pos on touch are absent
unfoldable pub lacking : List ℕ → File → ℕ → ℕ → ℕ
lacking a f pos n = count_to (λ i. not (present a f (pos / 480 + i))) (touched pos n)

-- how many blocks of the file lie wholly past len
unfoldable pub past_count : List ℕ → File → ℕ → ℕ
past_count a f len = count_to (λ k. is_past f len (blk a k)) (blocks a)

-- how many blocks the file has, its head among them
unfoldable pub own_count : List ℕ → File → ℕ
own_count a f = count_to (λ k. is_of f (blk a k)) (blocks a)

-- ---- put

-- src was written from pos on
pub record Put (a : List ℕ) (f : File) (pos : ℕ) (src : List ℕ) (a' : List ℕ) : Type 0 where
  -- it could be: the file is there, the end in range, and the absent blocks that it touches are no more than the free ones
  pub was : there a f ≡ true
  pub range : pos + length src ≤ longest
  pub room : lacking a f pos (length src) ≤ free_count a
  -- the arena
  pub size : length a' ≡ length a
  pub bytes : Bytes a → Bytes src → Bytes a'
  pub keeps : Bytes a → Bytes src → sound a ≡ true → sound a' ≡ true
  pub free : free_count a' + lacking a f pos (length src) ≡ free_count a
  -- the file
  pub exists : there a' f ≡ true
  pub long : length_of a' f ≡ max (length_of a f) (pos + length src)
  pub block : (q : ℕ) → present a' f q ≡ (present a f q || touches pos (length src) q)
  pub inside : (p : ℕ) → pos ≤ p → p < pos + length src → byte_at a' f p ≡ get_or src (p - pos) 0
  pub outside : (p : ℕ) → (pos ≤ p → pos + length src ≤ p) → byte_at a' f p ≡ byte_at a f p
  -- every other file
  pub others : (g : File) → f ≢ g → Kept a a' g

-- why n bytes could not be written from pos on
pub data PutRefused (a : List ℕ) (f : File) (pos n : ℕ) : ℕ → Type 0 where
  missing : there a f ≡ false → PutRefused a f pos n stuck
  far : there a f ≡ true → longest < pos + n → PutRefused a f pos n no_device_space
  full : there a f ≡ true → pos + n ≤ longest → free_count a < lacking a f pos n → PutRefused a f pos n no_device_space

-- ---- cut

-- the file's length was made len
pub record Cut (a : List ℕ) (f : File) (len : ℕ) (a' : List ℕ) : Type 0 where
  pub was : there a f ≡ true
  pub range : len ≤ longest
  -- the arena
  pub size : length a' ≡ length a
  pub bytes : Bytes a → Bytes a'
  pub keeps : Bytes a → sound a ≡ true → sound a' ≡ true
  pub free : free_count a' ≡ free_count a + past_count a f len
  -- the file
  pub exists : there a' f ≡ true
  pub long : length_of a' f ≡ len
  pub block : (q : ℕ) → present a' f q ≡ (present a f q && ltb (480 * q) len)
  pub below : (p : ℕ) → p < len → byte_at a' f p ≡ byte_at a f p
  pub beyond : (p : ℕ) → len ≤ p → byte_at a' f p ≡ 0
  -- every other file
  pub others : (g : File) → f ≢ g → Kept a a' g

pub data CutRefused (a : List ℕ) (f : File) (len : ℕ) : ℕ → Type 0 where
  missing : there a f ≡ false → CutRefused a f len stuck
  far : there a f ≡ true → longest < len → CutRefused a f len no_device_space

-- ---- make

-- the file was made. A file that is there already is not made again: then there would be two heads
pub record Make (a : List ℕ) (f : File) (a' : List ℕ) : Type 0 where
  pub room : 0 < free_count a
  -- the arena
  pub size : length a' ≡ length a
  pub bytes : Bytes a → Bytes a'
  pub keeps : Bytes a → sound a ≡ true → there a f ≡ false → sound a' ≡ true
  pub free : free_count a' + 1 ≡ free_count a
  -- the file
  pub exists : there a' f ≡ true
  pub long : there a f ≡ false → length_of a' f ≡ 0
  pub block : (q : ℕ) → present a' f q ≡ present a f q
  pub byte : (p : ℕ) → byte_at a' f p ≡ byte_at a f p
  -- in a sound arena a file that was not there has no blocks
  pub empty : sound a ≡ true → there a f ≡ false → (q : ℕ) → present a' f q ≡ false
  pub blank : sound a ≡ true → there a f ≡ false → (p : ℕ) → byte_at a' f p ≡ 0
  -- every other file
  pub others : (g : File) → f ≢ g → Kept a a' g

pub data MakeRefused (a : List ℕ) : ℕ → Type 0 where
  full : free_count a ≡ 0 → MakeRefused a no_device_space

-- ---- drop

-- the file was removed
pub record Drop (a : List ℕ) (f : File) (a' : List ℕ) : Type 0 where
  pub was : there a f ≡ true
  -- the arena
  pub size : length a' ≡ length a
  pub bytes : Bytes a → Bytes a'
  pub keeps : sound a ≡ true → sound a' ≡ true
  pub free : free_count a' ≡ free_count a + own_count a f
  -- the file
  pub gone : there a' f ≡ false
  pub long : length_of a' f ≡ 0
  pub block : (q : ℕ) → present a' f q ≡ false
  pub byte : (p : ℕ) → byte_at a' f p ≡ 0
  -- every other file
  pub others : (g : File) → f ≢ g → Kept a a' g

pub data DropRefused (a : List ℕ) (f : File) : ℕ → Type 0 where
  missing : there a f ≡ false → DropRefused a f stuck

-- ---- read

-- l is the n bytes of the file from pos on
pub record Read (a : List ℕ) (f : File) (pos n : ℕ) (l : List ℕ) : Type 0 where
  pub was : there a f ≡ true
  pub range : pos + n ≤ length_of a f
  pub size : length l ≡ n
  pub byte : (i : ℕ) → i < n → get_or l i 0 ≡ byte_at a f (pos + i)

pub data ReadRefused (a : List ℕ) (f : File) (pos n : ℕ) : ℕ → Type 0 where
  missing : there a f ≡ false → ReadRefused a f pos n stuck
  short : there a f ≡ true → length_of a f < pos + n → ReadRefused a f pos n stuck
