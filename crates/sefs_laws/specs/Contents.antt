-- Order 1, as those who write and read see it: "Both ways are wanted: what was written is what is read, all other bytes stay." Said of any
-- arena and table, any place and any bytes: a call that is done has asked the rest. w asks; i is the row of the handle, x what the call left.
use Rattle.std.specs.Prelude.{◌≡◌, Bool, true, ◌||◌, List, ◌≢◌, ◌⊎◌, ℕ, ◌+◌, ◌-◌, ◌≤◌, ◌<◌, min, max, length, get_or, replicate, ltb, Some}
use Rattle.base.specs.Out.{done}
use Rattle.le.specs.Le.{Bytes}
use Rattle.table.specs.declared.Table.{Table}
use Rattle.table.specs.declared.Row.{Row}
use Rattle.table.specs.declared.Handle.{Handle}
use Rattle.table.specs.Table.{row_at, live_row}
use Rattle.table.specs.Formed.{well_formed}
use Rattle.arena.specs.Fields.{File}
use Rattle.sound.specs.Sound.{sound}
use Rattle.files.specs.Read.{there, length_of, byte_at}
use Rattle.files_laws.specs.Laws.{Kept}
use Rattle.sefs.specs.Records.{with_size}
use Rattle.sefs.specs.Nodes.{node_file}
use Rattle.sefs.specs.Create.{After}
use Rattle.sefs.specs.Contents.{read_count, call_read, call_write, call_resize}

-- the file of row i, and the size that its record has
abbrev pub file_at : Table → ℕ → File
file_at t i = node_file (row_at t i).rec

abbrev pub size_at : Table → ℕ → ℕ
size_at t i = (row_at t i).rec.size

-- "a non-folder's file length is its size" (rule 6), of row i
abbrev pub Exact : List ℕ → Table → ℕ → Type 0
Exact a t i = length_of a (file_at t i) ≡ size_at t i

-- a row with another size, and a mark
abbrev pub sized : Row → ℕ → Bool → Row
sized r n dirty = record { id = r.id; dirty = dirty; rec = with_size r.rec n }

-- of the table, row i alone is another: its size is n, and it has that mark; of the arena, its file alone. The pair may be called again
pub record Only (a : List ℕ) (t : Table) (i n : ℕ) (dirty : Bool) (x : After) : Type 0 where
  pub row : row_at x.table i ≡ sized (row_at t i) n dirty
  pub rows : (j : ℕ) → j ≢ i → row_at x.table j ≡ row_at t j
  pub holds : x.table.holds ≡ t.holds
  pub next : x.table.next ≡ t.next
  pub formed : well_formed x.table ≡ true
  pub files : (g : File) → file_at t i ≢ g → Kept a x.arena g
  pub was : there a (file_at t i) ≡ true
  pub exists : there x.arena (file_at t i) ≡ true
  pub long : length x.arena ≡ length a
  pub bytes : Bytes x.arena
  pub keeps : sound x.arena ≡ true

-- ---- write

-- src was written from place on
pub record Written (a : List ℕ) (t : Table) (i place : ℕ) (src : List ℕ) (x : After) : Type 0 where
  -- "what was written is what is read, all other bytes stay"
  pub inside : (p : ℕ) → place ≤ p → p < place + length src → byte_at x.arena (file_at t i) p ≡ get_or src (p - place) 0
  pub outside : (p : ℕ) → (place ≤ p → place + length src ≤ p) → p < max (size_at t i) (place + length src) → byte_at x.arena (file_at t i) p ≡ byte_at a (file_at t i) p
  -- "A write past the end grows file and size": from the old end up to the place there are zeros
  pub hole : Exact a t i → (p : ℕ) → size_at t i ≤ p → p < place → byte_at x.arena (file_at t i) p ≡ 0
  pub exact : Exact a t i → Exact x.arena x.table i
  pub only : Only a t i (max (size_at t i) (place + length src)) (ltb (size_at t i) (place + length src) || (row_at t i).dirty) x

unfoldable pub IsWritten : Type 0
IsWritten = (a : List ℕ) (t : Table) (w : ℕ) (h : Handle) (i place : ℕ) (src : List ℕ) (x : After) → Bytes a → Bytes src
    → live_row t w h ≡ Some i → call_write a t w h place src ≡ done x → Written a t i place src x

-- "what was written is what is read"
unfoldable pub WrittenRead : Type 0
WrittenRead = (a : List ℕ) (t : Table) (w : ℕ) (h : Handle) (place : ℕ) (src : List ℕ) (x : After) → Bytes a → Bytes src
    → call_write a t w h place src ≡ done x → call_read x.arena x.table w h place (length src) ≡ done src

-- "all other bytes stay": a read of a part that the write doesn't touch, below the old size or where the size didn't change
unfoldable pub ReadSame : Type 0
ReadSame = (a : List ℕ) (t : Table) (w : ℕ) (h : Handle) (i place : ℕ) (src : List ℕ) (x : After) (at room : ℕ) → Bytes a → Bytes src
    → live_row t w h ≡ Some i → call_write a t w h place src ≡ done x
    → (at < place + length src → at + room ≤ place) → (at + room ≤ size_at t i) ⊎ (place + length src ≤ size_at t i)
    → call_read x.arena x.table w h at room ≡ call_read a t w h at room

-- and what other files hold: through anybody's handle g on a row j with another file
unfoldable pub ReadOther : Type 0
ReadOther = (a : List ℕ) (t : Table) (v w : ℕ) (h g : Handle) (i j place : ℕ) (src : List ℕ) (x : After) (at room : ℕ) → Bytes a → Bytes src
    → live_row t w h ≡ Some i → live_row t v g ≡ Some j → file_at t i ≢ file_at t j → call_write a t w h place src ≡ done x
    → call_read x.arena x.table v g at room ≡ call_read a t v g at room

-- a read between the old end and the place of a write past it
unfoldable pub HoleZero : Type 0
HoleZero = (a : List ℕ) (t : Table) (w : ℕ) (h : Handle) (i place : ℕ) (src : List ℕ) (x : After) (at room : ℕ) → Bytes a → Bytes src
    → live_row t w h ≡ Some i → Exact a t i → call_write a t w h place src ≡ done x
    → size_at t i ≤ at → at + room ≤ place → call_read x.arena x.table w h at room ≡ done (replicate room 0)

-- ---- resize

-- length and size were made n: what was there below it stays, and all else reads as zeros
pub record Resized (a : List ℕ) (t : Table) (i n : ℕ) (x : After) : Type 0 where
  pub below : (p : ℕ) → p < n → byte_at x.arena (file_at t i) p ≡ byte_at a (file_at t i) p
  pub beyond : (p : ℕ) → min n (length_of a (file_at t i)) ≤ p → byte_at x.arena (file_at t i) p ≡ 0
  pub exact : Exact x.arena x.table i
  pub only : Only a t i n true x

unfoldable pub IsResized : Type 0
IsResized = (a : List ℕ) (t : Table) (w : ℕ) (h : Handle) (i n : ℕ) (x : After) → Bytes a → live_row t w h ≡ Some i → call_resize a t w h n ≡ done x → Resized a t i n x

-- what a resize to n cut off is read by nobody, whatever the size is made afterwards
unfoldable pub CutOff : Type 0
CutOff = (a : List ℕ) (t : Table) (w : ℕ) (h : Handle) (n m : ℕ) (x y : After) (at room : ℕ) → Bytes a
    → call_resize a t w h n ≡ done x → call_resize x.arena x.table w h m ≡ done y
    → n ≤ at → call_read y.arena y.table w h at room ≡ done (replicate (read_count m at room) 0)
