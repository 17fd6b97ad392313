-- Order 13's call as the designer sees it, and as the Linux fallocate(2) page says it: what each mode makes of a file's text, and so what every read
-- gives afterwards.
use Rattle.std.specs.Prelude.{◌≡◌, true, false, List, ◌++◌, ℕ, ◌+◌, length, take, drop, replicate, Some}
use Rattle.base.specs.Out.{done}
use Rattle.base.specs.Parts.{part, paste, tab}
use Rattle.table.specs.declared.Table.{Table}
use Rattle.table.specs.declared.Handle.{Handle}
use Rattle.table.specs.Table.{live_row}
use Rattle.files.specs.Read.{byte_at}
use Rattle.sefs.specs.Contents.{call_read}
use Rattle.sefs_laws.specs.Contents.{file_at, size_at}
use Rattle.ranges.specs.declared.FallocateMode.{FallocateMode}
use Rattle.ranges.specs.declared.FallocateMode.TheVariants.{Allocate, PunchHoleKeepSize, ZeroRange, ZeroRangeKeepSize, CollapseRange, InsertRange, Unknown}
use Rattle.sequences.specs.Pairs.{Pair, Passed}
use Rattle.sequences.specs.Calls.{fallocate, does}
use Rattle.drawings.specs.Saved.{ReadsAll, filled_to}

-- the text of row i's file: its bytes below the size
abbrev pub text_at : List ℕ → Table → ℕ → List ℕ
text_at a t i = tab (byte_at a (file_at t i)) 0 (size_at t i)

-- what each mode makes of a text. Insert: "bytes from the start on move up unchanged and the hole reads zero". Collapse: what lies after the range
-- comes to its start. Zero range: zeros laid over the range, to its end also where that is past the old one; a punched hole ends with the old text.
-- Allocate: zeros up to the range's end where the text is shorter, unless the size is to be kept. (A mode that is none is never done.)
abbrev pub new_text : FallocateMode → ℕ → ℕ → List ℕ → List ℕ
new_text InsertRange from len old = take from old ++ (replicate len 0 ++ drop from old)
new_text CollapseRange from len old = take from old ++ drop (from + len) old
new_text ZeroRange from len old = paste (filled_to (from + len) old) from (replicate len 0)
new_text PunchHoleKeepSize from len old = take (length old) (paste (filled_to (from + len) old) from (replicate len 0))
new_text ZeroRangeKeepSize from len old = take (length old) (paste (filled_to (from + len) old) from (replicate len 0))
new_text (Allocate true) from len old = old
new_text (Allocate false) from len old = filled_to (from + len) old
new_text Unknown from len old = old

-- ---- w calls through h, which is on row i, and it is done

-- the new text is that of the old one
unfoldable pub TextIs : Type 0
TextIs = (p q : Pair) (w : ℕ) (h : Handle) (mode : FallocateMode) (from len i : ℕ) → Passed p → live_row p.table w h ≡ Some i
    → does (fallocate w h mode from len) p ≡ done q → text_at q.arena q.table i ≡ new_text mode from len (text_at p.arena p.table i)

-- every read afterwards, at any place and with any room, also across the range's ends, is its part of it: through h, and through anybody's handle g
-- on the same row
unfoldable pub ReadsText : Type 0
ReadsText = (p q : Pair) (w v : ℕ) (h g : Handle) (mode : FallocateMode) (from len i at room : ℕ) → Passed p → live_row p.table w h ≡ Some i → live_row p.table v g ≡ Some i
    → does (fallocate w h mode from len) p ≡ done q
    → call_read q.arena q.table v g at room ≡ done (part (new_text mode from len (text_at p.arena p.table i)) at (at + room))

-- the same by calls alone: before it, a read from the start with room to spare gave `old`
unfoldable pub ReadsNew : Type 0
ReadsNew = (p q : Pair) (w : ℕ) (h : Handle) (mode : FallocateMode) (from len : ℕ) (old : List ℕ) (at room : ℕ) → Passed p → ReadsAll w h old p
    → does (fallocate w h mode from len) p ≡ done q → call_read q.arena q.table w h at room ≡ done (part (new_text mode from len old) at (at + room))
