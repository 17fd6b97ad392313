-- What each mode does to a node's bytes, one by one, and as those who read see it. Said of any arena and table, any place and length, as order 1's
-- laws are: a call that is done has asked the rest. w asks; i is the row of the handle, x what the call left.
use Rattle.std.specs.Prelude.{◌≡◌, Bool, true, false, ◌||◌, List, ◌≢◌, ◌⊎◌, ℕ, ◌+◌, ◌-◌, ◌≤◌, ◌<◌, max, replicate, ltb, Some}
use Rattle.base.specs.Out.{done}
use Rattle.base.specs.Parts.{Outside}
use Rattle.le.specs.Le.{Bytes}
use Rattle.structs.specs.Constants.{type_file}
use Rattle.table.specs.declared.Table.{Table}
use Rattle.table.specs.declared.Handle.{Handle}
use Rattle.table.specs.Table.{row_at, live_row}
use Rattle.files.specs.Read.{there, byte_at}
use Rattle.sefs.specs.Ask.{start}
use Rattle.sefs.specs.Create.{After, after}
use Rattle.sefs.specs.Contents.{read_count, call_read, call_write, call_resize}
use Rattle.sefs_laws.specs.Contents.{file_at, size_at, Exact, Only, Resized}
use Rattle.ranges.specs.Ranges.{call_fallocate}
use Rattle.ranges.specs.declared.FallocateMode.{FallocateMode}
use Rattle.ranges.specs.declared.FallocateMode.TheVariants.{Allocate, PunchHoleKeepSize, ZeroRange, ZeroRangeKeepSize, CollapseRange, InsertRange}

-- in that mode a call that is done has done what P says
abbrev pub InMode : FallocateMode → (List ℕ → Table → ℕ → ℕ → ℕ → After → Type 0) → Type 0
InMode mode P = (a : List ℕ) (t : Table) (w : ℕ) (h : Handle) (i from len : ℕ) (x : After) → Bytes a
    → live_row t w h ≡ Some i → call_fallocate a t w h mode from len ≡ done x → P a t i from len x

-- ---- insert: "bytes from the start on move up unchanged and the hole reads zero"

pub record Inserted (a : List ℕ) (t : Table) (i from len : ℕ) (x : After) : Type 0 where
  pub below : (p : ℕ) → p < from → byte_at x.arena (file_at t i) p ≡ byte_at a (file_at t i) p
  pub hole : (p : ℕ) → from ≤ p → p < from + len → byte_at x.arena (file_at t i) p ≡ 0
  pub moved : (p : ℕ) → from ≤ p → p < size_at t i → byte_at x.arena (file_at t i) (p + len) ≡ byte_at a (file_at t i) p
  -- "making the file range.len() bytes bigger" (000), and nothing else is another
  pub exact : Exact x.arena x.table i
  pub only : Only a t i (size_at t i + len) true x

unfoldable pub IsInserted : Type 0
IsInserted = InMode InsertRange Inserted

-- ---- collapse: "The contents of the file starting at the end of range will be appended at the start of the range" (000)

pub record Collapsed (a : List ℕ) (t : Table) (i from len : ℕ) (x : After) : Type 0 where
  pub below : (p : ℕ) → p < from → byte_at x.arena (file_at t i) p ≡ byte_at a (file_at t i) p
  pub moved : (p : ℕ) → from ≤ p → p < size_at t i - len → byte_at x.arena (file_at t i) p ≡ byte_at a (file_at t i) (p + len)
  -- "making the file range.len() bytes smaller"
  pub exact : Exact x.arena x.table i
  pub only : Only a t i (size_at t i - len) true x

unfoldable pub IsCollapsed : Type 0
IsCollapsed = InMode CollapseRange Collapsed

-- ---- zero range: zeros over the whole range, all other bytes stay, size grows to the end where that is above it

pub record Zeroed (a : List ℕ) (t : Table) (i from len : ℕ) (x : After) : Type 0 where
  pub inside : (p : ℕ) → from ≤ p → p < from + len → byte_at x.arena (file_at t i) p ≡ 0
  pub outside : (p : ℕ) → Outside p from len → p < max (size_at t i) (from + len) → byte_at x.arena (file_at t i) p ≡ byte_at a (file_at t i) p
  pub exact : Exact a t i → Exact x.arena x.table i
  -- an empty range within the size touches nothing, "not even a missing file"
  pub only : there a (file_at t i) ≡ true → Only a t i (max (size_at t i) (from + len)) (ltb (size_at t i) (from + len) || (row_at t i).dirty) x
  pub missing : there a (file_at t i) ≡ false → x ≡ after (start a t)

unfoldable pub IsZeroed : Type 0
IsZeroed = InMode ZeroRange Zeroed

-- ---- punch hole, and zero range with keep size: zeros over the part of the range below size, all other bytes stay, and so does the row

pub record Punched (a : List ℕ) (t : Table) (i from len : ℕ) (x : After) : Type 0 where
  pub inside : (p : ℕ) → from ≤ p → p < from + len → p < size_at t i → byte_at x.arena (file_at t i) p ≡ 0
  pub outside : (p : ℕ) → Outside p from len ⊎ (size_at t i ≤ p) → byte_at x.arena (file_at t i) p ≡ byte_at a (file_at t i) p
  pub exact : Exact a t i → Exact x.arena x.table i
  pub table : x.table ≡ t
  pub only : there a (file_at t i) ≡ true → Only a t i (size_at t i) (row_at t i).dirty x
  pub missing : there a (file_at t i) ≡ false → x ≡ after (start a t)

unfoldable pub IsPunched : Type 0
IsPunched = InMode PunchHoleKeepSize Punched

-- 000 has one function for both
unfoldable pub PunchIsZeroKeep : Type 0
PunchIsZeroKeep = (a : List ℕ) (t : Table) (w : ℕ) (h : Handle) (from len : ℕ)
    → call_fallocate a t w h ZeroRangeKeepSize from len ≡ call_fallocate a t w h PunchHoleKeepSize from len

-- ---- allocate: with keep size, or an end not above size, nothing at all; else it is a resize to the end: what was there stays, the rest reads as zeros

pub record Reserved (keep : Bool) (a : List ℕ) (t : Table) (i from len : ℕ) (x : After) : Type 0 where
  pub nothing : (keep ≡ true) ⊎ (from + len ≤ size_at t i) → x ≡ after (start a t)
  pub grown : keep ≡ false → size_at t i < from + len → Resized a t i (from + len) x

unfoldable pub IsAllocated : Type 0
IsAllocated = (keep : Bool) → InMode (Allocate keep) (Reserved keep)

-- ---- what is read afterwards

-- after an insert: below the range as before; in it zeros; from its end on what was there from its start on, up to the end of the file
pub record InsertReads (a : List ℕ) (t : Table) (w : ℕ) (h : Handle) (from len : ℕ) (x : After) : Type 0 where
  pub below : (at room : ℕ) → at + room ≤ from → call_read x.arena x.table w h at room ≡ call_read a t w h at room
  pub hole : (at room : ℕ) → from ≤ at → at + room ≤ from + len → call_read x.arena x.table w h at room ≡ done (replicate room 0)
  pub moved : (at room : ℕ) → from ≤ at → call_read x.arena x.table w h (at + len) room ≡ call_read a t w h at room

unfoldable pub ReadInserted : Type 0
ReadInserted = (a : List ℕ) (t : Table) (w : ℕ) (h : Handle) (from len : ℕ) (x : After) → Bytes a
    → call_fallocate a t w h InsertRange from len ≡ done x → InsertReads a t w h from len x

-- after a collapse: below the range as before; from its start on what was there from its end on, up to the end of the file
pub record CollapseReads (a : List ℕ) (t : Table) (w : ℕ) (h : Handle) (from len : ℕ) (x : After) : Type 0 where
  pub below : (at room : ℕ) → at + room ≤ from → call_read x.arena x.table w h at room ≡ call_read a t w h at room
  pub moved : (at room : ℕ) → from ≤ at → call_read x.arena x.table w h at room ≡ call_read a t w h (at + len) room

unfoldable pub ReadCollapsed : Type 0
ReadCollapsed = (a : List ℕ) (t : Table) (w : ℕ) (h : Handle) (from len : ℕ) (x : After) → Bytes a
    → call_fallocate a t w h CollapseRange from len ≡ done x → CollapseReads a t w h from len x

-- after a zero range: in it zeros, all of them; elsewhere as before, below the old size or where the size didn't change
pub record ZeroReads (a : List ℕ) (t : Table) (w : ℕ) (h : Handle) (i from len : ℕ) (x : After) : Type 0 where
  pub inside : (at room : ℕ) → from ≤ at → at + room ≤ from + len → call_read x.arena x.table w h at room ≡ done (replicate room 0)
  pub outside : (at room : ℕ) → ((k : ℕ) → k < room → Outside (at + k) from len) → (at + room ≤ size_at t i) ⊎ (from + len ≤ size_at t i)
      → call_read x.arena x.table w h at room ≡ call_read a t w h at room

unfoldable pub ReadZeroed : Type 0
ReadZeroed = (a : List ℕ) (t : Table) (w : ℕ) (h : Handle) (i from len : ℕ) (x : After) → Bytes a → live_row t w h ≡ Some i → there a (file_at t i) ≡ true
    → call_fallocate a t w h ZeroRange from len ≡ done x → ZeroReads a t w h i from len x

-- after a punched hole: in it zeros up to the size; elsewhere as before
pub record PunchReads (a : List ℕ) (t : Table) (w : ℕ) (h : Handle) (i from len : ℕ) (x : After) : Type 0 where
  pub inside : (at room : ℕ) → from ≤ at → at + room ≤ from + len → call_read x.arena x.table w h at room ≡ done (replicate (read_count (size_at t i) at room) 0)
  pub outside : (at room : ℕ) → ((k : ℕ) → k < room → Outside (at + k) from len) → call_read x.arena x.table w h at room ≡ call_read a t w h at room

unfoldable pub ReadPunched : Type 0
ReadPunched = (a : List ℕ) (t : Table) (w : ℕ) (h : Handle) (i from len : ℕ) (x : After) → Bytes a → live_row t w h ≡ Some i → there a (file_at t i) ≡ true
    → call_fallocate a t w h PunchHoleKeepSize from len ≡ done x → PunchReads a t w h i from len x

-- collapse after insert of the same range gives back the bytes: where the insert was done, the collapse is, and whatever is read is what was read
pub record Back (a : List ℕ) (t : Table) (w : ℕ) (h : Handle) (y : After) : Type 0 where
  pub reads : (at room : ℕ) → call_read y.arena y.table w h at room ≡ call_read a t w h at room
  pub size : (i : ℕ) → live_row t w h ≡ Some i → size_at y.table i ≡ size_at t i

unfoldable pub GivesBack : Type 0
GivesBack = (a : List ℕ) (t : Table) (w : ℕ) (h : Handle) (from len : ℕ) (x y : After) → Bytes a
    → call_fallocate a t w h InsertRange from len ≡ done x → call_fallocate x.arena x.table w h CollapseRange from len ≡ done y → Back a t w h y

unfoldable pub CanGoBack : Type 0
CanGoBack = (a : List ℕ) (t : Table) (w : ℕ) (h : Handle) (from len : ℕ) (x : After) → Bytes a
    → call_fallocate a t w h InsertRange from len ≡ done x → (y : After) × (call_fallocate x.arena x.table w h CollapseRange from len ≡ done y)

-- other files: in every mode, through anybody's handle g on a row j with another file
unfoldable pub ReadOthers : Type 0
ReadOthers = (mode : FallocateMode) (a : List ℕ) (t : Table) (v w : ℕ) (h g : Handle) (i j from len : ℕ) (x : After) (at room : ℕ) → Bytes a
    → live_row t w h ≡ Some i → live_row t v g ≡ Some j → file_at t i ≢ file_at t j → call_fallocate a t w h mode from len ≡ done x
    → call_read x.arena x.table v g at room ≡ call_read a t v g at room

-- ---- modes that are calls of order 1, byte for byte of the arena: of a file (type 1)

unfoldable pub AllocateIsResize : Type 0
AllocateIsResize = (a : List ℕ) (t : Table) (w : ℕ) (h : Handle) (i from len : ℕ) → live_row t w h ≡ Some i → (row_at t i).rec.kind ≡ type_file → size_at t i < from + len
    → call_fallocate a t w h (Allocate false) from len ≡ call_resize a t w h (from + len)

unfoldable pub ZeroIsWrite : Type 0
ZeroIsWrite = (a : List ℕ) (t : Table) (w : ℕ) (h : Handle) (i from len : ℕ) → live_row t w h ≡ Some i → (row_at t i).rec.kind ≡ type_file → 0 < len
    → call_fallocate a t w h ZeroRange from len ≡ call_write a t w h from (replicate len 0)
