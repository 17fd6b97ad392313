-- Calls on a file's own bytes (order 1): read, write, resize. "for files, symlinks and sockets"; links are not looked at.
use Rattle.std.specs.Prelude.{not, ◌&&◌, List, ℕ, ◌+◌, ◌-◌, min, length, ltb, leb}
use Rattle.structs.specs.Types.{is_folder, is_type}
use Rattle.structs.specs.declared.DiskINode.{DiskINode}
use Rattle.base.specs.Out.{Out, done, ensure, guard, ◌>>=◌}
use Rattle.base.specs.Parts.{tab}
use Rattle.base.specs.Reasons.{stuck, not_file, file_too_big}
use Rattle.base.specs.Search.{pick}
use Rattle.table.specs.declared.Table.{Table}
use Rattle.table.specs.declared.Handle.{Handle}
use Rattle.table.specs.Table.{row_at}
use Rattle.arena.specs.Fields.{File}
use Rattle.files.specs.Read.{there, byte_at}
use Rattle.files.specs.Store.{longest, put_file, cut_file}
use Rattle.sefs.specs.State.{Fs, with_arena}
use Rattle.sefs.specs.Records.{with_size}
use Rattle.sefs.specs.Nodes.{node_file, rec_at, set_rec}
use Rattle.sefs.specs.Ask.{admit, by_handle, type_in_range, start}
use Rattle.sefs.specs.Create.{After, after}

-- "21 NotFile for a folder or type 0". 000 looks at the type, so one above 4 sticks
unfoldable pub has_contents : DiskINode → Out Unit
has_contents r = do
  _ ← type_in_range r
  ensure (is_type r.kind && not (is_folder r.kind)) not_file

-- "22 FileTooBig where a write's or resize's end passes 4,294,967,295"
abbrev pub not_too_big : ℕ → Out Unit
not_too_big end = ensure (leb end longest) file_too_big

-- ---- read

-- "A read answers the bytes below size, and none where its place is at size or beyond": how many of `room` bytes from `place` on
abbrev pub read_count : ℕ → ℕ → ℕ → ℕ
read_count size place room = min size (place + room) - min size place

-- those bytes. 000 touches the file each time, and fills with zeros where the file is shorter (an absent block reads as zeros)
unfoldable pub read_bytes : List ℕ → File → ℕ → ℕ → Out (List ℕ)
read_bytes a f place n = guard (there a f) stuck (done (tab (byte_at a f) place n))

-- what is written at the start of an output of `room` bytes
unfoldable pub call_read : List ℕ → Table → ℕ → Handle → ℕ → ℕ → Out (List ℕ)
call_read a t w h place room = do
  _ ← admit a t
  i ← by_handle t w h
  _ ← has_contents (row_at t i).rec
  read_bytes a (node_file (row_at t i).rec) place (read_count (row_at t i).rec.size place room)

-- ---- resize: the file's length and the size become n, and the row is dirty. No record is stored

unfoldable pub resize_steps : Fs → ℕ → ℕ → Out Fs
resize_steps s i n = do
  a ← cut_file s.arena (node_file (rec_at s i)) n
  done (set_rec (with_arena s a) i (with_size (rec_at s i) n))

unfoldable pub call_resize : List ℕ → Table → ℕ → Handle → ℕ → Out After
call_resize a t w h n = do
  _ ← admit a t
  i ← by_handle t w h
  _ ← has_contents (row_at t i).rec
  _ ← not_too_big n
  s ← resize_steps (start a t) i n
  done (after s)

-- ---- write: "A write past the end grows file and size." The bytes go into the file; where the end is above the size, length and size are
-- then set to it. An empty write is a write

unfoldable pub write_steps : Fs → ℕ → ℕ → List ℕ → Out Fs
write_steps s i place bytes = do
  a ← put_file s.arena (node_file (rec_at s i)) place bytes
  pick (ltb (rec_at s i).size (place + length bytes)) (resize_steps (with_arena s a) i (place + length bytes)) (done (with_arena s a))

unfoldable pub call_write : List ℕ → Table → ℕ → Handle → ℕ → List ℕ → Out After
call_write a t w h place bytes = do
  _ ← admit a t
  i ← by_handle t w h
  _ ← has_contents (row_at t i).rec
  _ ← not_too_big (place + length bytes)
  s ← write_steps (start a t) i place bytes
  done (after s)
