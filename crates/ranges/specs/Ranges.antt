-- Order 13: "Bring in `fallocate` with its six modes, blocks of 128 as in 000." `from` is the range's start, `len` its length.
use Rattle.std.specs.Prelude.{Bool, ◌&&◌, List, ℕ, ◌+◌, ◌-◌, ◌%◌, min, eqb, ltb, leb}
use Rattle.structs.specs.Constants.{type_file}
use Rattle.structs.specs.declared.DiskINode.{DiskINode}
use Rattle.base.specs.Out.{Out, done, refused, ensure, ◌>>=◌}
use Rattle.base.specs.Reasons.{invalid_param, stuck, not_file}
use Rattle.base.specs.Search.{pick}
use Rattle.table.specs.declared.Table.{Table}
use Rattle.table.specs.declared.Handle.{Handle}
use Rattle.table.specs.Table.{row_at}
use Rattle.sefs.specs.State.{Fs, with_arena}
use Rattle.sefs.specs.Nodes.{node_file, rec_at}
use Rattle.sefs.specs.Ask.{admit, by_handle, start}
use Rattle.sefs.specs.Create.{After, after}
use Rattle.sefs.specs.Contents.{not_too_big, resize_steps}
use Rattle.pieces.specs.Pieces.{write_zeros, copy_down, copy_up}
use Rattle.ranges.specs.declared.FallocateMode.{FallocateMode}
use Rattle.ranges.specs.declared.FallocateMode.TheVariants.{Allocate, PunchHoleKeepSize, ZeroRange, ZeroRangeKeepSize, CollapseRange, InsertRange, Unknown}

-- ---- what it asks: 21, 22, 6, 22

-- "21 unless type 1". 000 looks at the type, so one above 4 sticks
unfoldable pub plain_file : DiskINode → Out Unit
plain_file r = do
  _ ← ensure (leb r.kind 4) stuck
  ensure (eqb r.kind type_file) not_file

-- "alignment": a whole number of 128s
abbrev pub aligned : ℕ → Bool
aligned n = eqb (n % 128) 0

-- "6 by 000's start, end and alignment tests; 22 for a grown size beyond the limit", in a file of that size
abbrev pub fits_mode : FallocateMode → ℕ → ℕ → ℕ → Out Unit
fits_mode CollapseRange size from len = ensure (ltb (from + len) size && (aligned from && aligned len)) invalid_param
fits_mode InsertRange size from len = do
  _ ← ensure (ltb from size && (aligned from && aligned len)) invalid_param
  not_too_big (size + len)
fits_mode (Allocate keep) size from len = done tt
fits_mode PunchHoleKeepSize size from len = done tt
fits_mode ZeroRange size from len = done tt
fits_mode ZeroRangeKeepSize size from len = done tt
-- "A mode that is none of the six can only come at the C edge: 6, in 6's place and first there"
fits_mode Unknown size from len = refused invalid_param

-- ---- the steps. No record is stored and no time is set; `resize_steps` sets length and size, and marks the row

-- where the end is above size, length and size become the end; no block is made
unfoldable pub grow_steps : Fs → ℕ → ℕ → Out Fs
grow_steps s i end = pick (ltb (rec_at s i).size end) (resize_steps s i end) (done s)

-- zeros in the file; the row stays
unfoldable pub zero_steps : Fs → ℕ → ℕ → ℕ → Out Fs
zero_steps s i pos n = do
  a ← write_zeros s.arena (node_file (rec_at s i)) pos n
  done (with_arena s a)

-- 000's zero_range that keeps the size: "zeros over the part below size"
unfoldable pub punch_steps : Fs → ℕ → ℕ → ℕ → Out Fs
punch_steps s i from len = zero_steps s i (min from (rec_at s i).size) (min (from + len) (rec_at s i).size - min from (rec_at s i).size)

-- 000's zero_range that doesn't: "over the whole range, and where the end is above size length and size become the end"
unfoldable pub zero_range_steps : Fs → ℕ → ℕ → ℕ → Out Fs
zero_range_steps s i from len = do
  s ← zero_steps s i from len
  grow_steps s i (from + len)

-- 000's collapse_range: what lies after the range comes to its start, then length and size fall by its length. An empty range copies nothing
unfoldable pub collapse_steps : Fs → ℕ → ℕ → ℕ → Out Fs
collapse_steps s i from len = do
  a ← pick (eqb len 0) (done s.arena) (copy_down s.arena (node_file (rec_at s i)) (from + len) from ((rec_at s i).size - (from + len)))
  resize_steps (with_arena s a) i ((rec_at s i).size - len)

-- 000's insert_range: "bytes from the start on move up unchanged and the hole reads zero"; then length and size grow. An empty range copies nothing
unfoldable pub insert_steps : Fs → ℕ → ℕ → ℕ → Out Fs
insert_steps s i from len = do
  a ← pick (eqb len 0) (done s.arena) (copy_up s.arena (node_file (rec_at s i)) from (from + len) ((rec_at s i).size - from))
  s ← zero_steps (with_arena s a) i from len
  resize_steps s i ((rec_at s i).size + len)

abbrev pub mode_steps : FallocateMode → Fs → ℕ → ℕ → ℕ → Out Fs
mode_steps (Allocate keep) s i from len = pick keep (done s) (grow_steps s i (from + len))
mode_steps PunchHoleKeepSize s i from len = punch_steps s i from len
mode_steps ZeroRange s i from len = zero_range_steps s i from len
mode_steps ZeroRangeKeepSize s i from len = punch_steps s i from len
mode_steps CollapseRange s i from len = collapse_steps s i from len
mode_steps InsertRange s i from len = insert_steps s i from len
-- (refused before)
mode_steps Unknown s i from len = refused invalid_param

-- ---- the call: "21 unless type 1; 22 for an end beyond order 1's limit; 6 by 000's start, end and alignment tests; 22 for a grown size beyond
-- the limit; then 19 or 17"

unfoldable pub call_fallocate : List ℕ → Table → ℕ → Handle → FallocateMode → ℕ → ℕ → Out After
call_fallocate a t w h mode from len = do
  _ ← admit a t
  i ← by_handle t w h
  _ ← plain_file (row_at t i).rec
  _ ← not_too_big (from + len)
  _ ← fits_mode mode (row_at t i).rec.size from len
  s ← mode_steps mode (start a t) i from len
  done (after s)
