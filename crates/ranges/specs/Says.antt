-- The number that the call answers, exactly: "21 unless type 1; 22 ..; 6 ..; 22 ..; then 19 or 17". So the code can decide before any store, by
-- counting (pieces: Counts).
use Rattle.std.specs.Prelude.{◌≡◌, Bool, true, false, not, ◌&&◌, ◌||◌, List, ℕ, ◌+◌, ◌*◌, ◌-◌, ◌/◌, ◌≤◌, ◌<◌, min, eqb, ltb, leb}
use Rattle.base.specs.Out.{Out, done, refused, answer, Ok, ◌>>=◌}
use Rattle.base.specs.Reasons.{no_device_space, stuck}
use Rattle.base.specs.Search.{pick}
use Rattle.le.specs.Le.{Bytes}
use Rattle.table.specs.declared.Table.{Table}
use Rattle.table.specs.declared.Handle.{Handle}
use Rattle.table.specs.Table.{row_at}
use Rattle.arena.specs.Fields.{File}
use Rattle.arena.specs.Places.{free_count}
use Rattle.files.specs.Read.{there, length_of}
use Rattle.files.specs.Store.{longest}
use Rattle.files_laws.specs.Laws.{lacking}
use Rattle.sefs.specs.Ask.{admit, by_handle}
use Rattle.sefs.specs.Contents.{not_too_big}
use Rattle.sefs_laws.specs.Contents.{file_at, size_at, Exact}
use Rattle.pieces.specs.Counts.{ByRoom}
use Rattle.ranges.specs.Ranges.{plain_file, fits_mode, call_fallocate}
use Rattle.ranges.specs.declared.FallocateMode.{FallocateMode}
use Rattle.ranges.specs.declared.FallocateMode.TheVariants.{Allocate, PunchHoleKeepSize, ZeroRange, ZeroRangeKeepSize, CollapseRange, InsertRange, Unknown}

-- all that it asks before its first step; where that is answered, of row i
unfoldable pub questions : List ℕ → Table → ℕ → Handle → FallocateMode → ℕ → ℕ → Out ℕ
questions a t w h mode from len = do
  _ ← admit a t
  i ← by_handle t w h
  _ ← plain_file (row_at t i).rec
  _ ← not_too_big (from + len)
  _ ← fits_mode mode (row_at t i).rec.size from len
  done i

unfoldable pub AsksFirst : Type 0
AsksFirst = (a : List ℕ) (t : Table) (w : ℕ) (h : Handle) (mode : FallocateMode) (from len r : ℕ)
    → questions a t w h mode from len ≡ refused r → call_fallocate a t w h mode from len ≡ refused r

-- how many blocks a mode lacks, in a file of that size: those of the bytes that it stores
abbrev pub blocks_wanted : FallocateMode → List ℕ → File → ℕ → ℕ → ℕ → ℕ
blocks_wanted (Allocate keep) a f size from len = 0
blocks_wanted PunchHoleKeepSize a f size from len = lacking a f (min from size) (min (from + len) size - min from size)
blocks_wanted ZeroRangeKeepSize a f size from len = lacking a f (min from size) (min (from + len) size - min from size)
blocks_wanted ZeroRange a f size from len = lacking a f from len
blocks_wanted CollapseRange a f size from len = pick (eqb len 0) 0 (lacking a f from (size - (from + len)))
blocks_wanted InsertRange a f size from len = pick (eqb len 0) 0 (lacking a f from (len + (size - from)))
-- (6 comes before, here and below)
blocks_wanted Unknown a f size from len = 0

-- of a file that is there and as long as its size: 17 exactly where they are more than are free, and never 19
unfoldable pub BlocksDecide : Type 0
BlocksDecide = (a : List ℕ) (t : Table) (w : ℕ) (h : Handle) (mode : FallocateMode) (from len i : ℕ) → Bytes a → questions a t w h mode from len ≡ done i
    → there a (file_at t i) ≡ true → Exact a t i
    → Ok (λ x. blocks_wanted mode a (file_at t i) (size_at t i) from len ≤ free_count a)
    (λ r. (r ≡ no_device_space) × (free_count a < blocks_wanted mode a (file_at t i) (size_at t i) from len))
    (call_fallocate a t w h mode from len)

-- of any file. Where it is there: insert and collapse copy, so they stick on one that is shorter than its size, insert at once and collapse after
-- the pieces before. (An empty range copies nothing; a collapse then sets the length, which may pass the limit.)
abbrev pub says_on : FallocateMode → List ℕ → File → ℕ → ℕ → ℕ → ℕ
says_on (Allocate keep) a f size from len = 0
says_on PunchHoleKeepSize a f size from len = ByRoom a f (min from size) (min (from + len) size - min from size)
says_on ZeroRangeKeepSize a f size from len = ByRoom a f (min from size) (min (from + len) size - min from size)
says_on ZeroRange a f size from len = ByRoom a f from len
says_on CollapseRange a f size from len =
    pick (eqb len 0) (pick (leb size longest) 0 no_device_space)
    (pick (leb size (length_of a f)) (ByRoom a f from (size - (from + len)))
    (pick (leb (lacking a f from (128 * ((length_of a f - (from + len)) / 128))) (free_count a)) stuck no_device_space))
says_on InsertRange a f size from len = pick (eqb len 0) 0 (pick (leb size (length_of a f)) (ByRoom a f from (len + (size - from))) stuck)
says_on Unknown a f size from len = 0

-- where it is missing: 19 where a mode looks for it at all, to store bytes or to set the length
abbrev pub looks : FallocateMode → ℕ → ℕ → ℕ → Bool
looks (Allocate keep) size from len = not keep && ltb size (from + len)
looks PunchHoleKeepSize size from len = ltb (min from size) (min (from + len) size)
looks ZeroRangeKeepSize size from len = ltb (min from size) (min (from + len) size)
looks ZeroRange size from len = ltb 0 len || ltb size (from + len)
looks CollapseRange size from len = true
looks InsertRange size from len = true
looks Unknown size from len = false

unfoldable pub FallocateSays : Type 0
FallocateSays = (a : List ℕ) (t : Table) (w : ℕ) (h : Handle) (mode : FallocateMode) (from len i : ℕ) → Bytes a → questions a t w h mode from len ≡ done i
    → answer (call_fallocate a t w h mode from len)
    ≡ pick (there a (file_at t i)) (says_on mode a (file_at t i) (size_at t i) from len) (pick (looks mode (size_at t i) from len) stuck 0)
