-- Calls that read: metadata, get entry, listing. And set metadata, which changes the row alone.
use Rattle.std.specs.Prelude.{true, not, ◌&&◌, List, [], ◌++◌, ℕ, zero, suc, ◌+◌, ◌-◌, ◌/◌, ◌%◌, ◌^◌, min, ltb, leb}
use Rattle.structs.specs.Types.{is_folder}
use Rattle.base.specs.Out.{Out, done, ensure, ◌>>=◌}
use Rattle.base.specs.Reasons.{entry_not_found, out_full, stuck}
use Rattle.base.specs.Search.{pick}
use Rattle.structs.specs.Layout.{entry_of}
use Rattle.structs.specs.declared.DiskINode.{DiskINode}
use Rattle.structs.specs.declared.Timespec.{Timespec}
use Rattle.utf8.specs.Names.{stored_name}
use Rattle.table.specs.declared.Table.{Table}
use Rattle.table.specs.declared.Handle.{Handle}
use Rattle.table.specs.Table.{row_at, take_row}
use Rattle.sefs.specs.Slots.{slot_bytes, is_ended}
use Rattle.sefs.specs.declared.Metadata.{Metadata}
use Rattle.sefs.specs.Ask.{admit, by_handle, known, type_in_range, folder}

-- ---- metadata: "A folder's size field stays 0; metadata answers its `blocks` as size"

abbrev pub metadata_of : ℕ → DiskINode → Metadata
metadata_of id r = record {
  inode = id;
  size = pick (is_folder r.kind) r.blocks r.size;
  mode = r.mode;
  kind = r.kind;
  blocks = r.blocks;
  atime = r.atime;
  mtime = r.mtime;
  ctime = r.ctime;
  nlinks = r.nlinks;
  uid = r.uid;
  gid = r.gid;
}

unfoldable pub call_metadata : List ℕ → Table → ℕ → Handle → Out Metadata
call_metadata a t w h = do
  _ ← admit a t
  i ← by_handle t w h
  _ ← known (row_at t i).rec
  done (metadata_of (row_at t i).id (row_at t i).rec)

-- ---- set metadata: "keeps uid and gid modulo 2^32 and marks the row dirty; it doesn't store"

abbrev pub changed : DiskINode → ℕ → ℕ → ℕ → Timespec → Timespec → Timespec → DiskINode
changed r mode uid gid atime mtime ctime = record {
  size = r.size;
  kind = r.kind;
  mode = mode;
  nlinks = r.nlinks;
  blocks = r.blocks;
  uid = uid % 2 ^ 32;
  gid = gid % 2 ^ 32;
  pad = r.pad;
  atime = atime;
  mtime = mtime;
  ctime = ctime;
  file = r.file;
  mac = r.mac;
}

unfoldable pub call_set : List ℕ → Table → ℕ → Handle → ℕ → ℕ → ℕ → Timespec → Timespec → Timespec → Out Table
call_set a t w h mode uid gid atime mtime ctime = do
  _ ← admit a t
  i ← by_handle t w h
  done (take_row t i (row_at t i).id (changed (row_at t i).rec mode uid gid atime mtime ctime) true)

-- ---- get entry: 7, 11, 20, then the slot, as stored. A type above 4 sticks before 7; type 0 is 7

unfoldable pub readable : DiskINode → Out Unit
readable r = do
  _ ← type_in_range r
  folder r

-- a slot whose name is looked at, as stored
unfoldable pub named_slot : List ℕ → DiskINode → ℕ → Out (List ℕ)
named_slot a r k = do
  l ← slot_bytes a r k
  _ ← ensure (is_ended (stored_name (entry_of l).name)) stuck
  done l

-- what is written at the start of an output of `room` bytes
unfoldable pub call_entry : List ℕ → Table → ℕ → Handle → ℕ → ℕ → Out (List ℕ)
call_entry a t w h k room = do
  _ ← admit a t
  i ← by_handle t w h
  _ ← readable (row_at t i).rec
  _ ← ensure (ltb k (row_at t i).rec.blocks) entry_not_found
  _ ← ensure (leb 264 room) out_full
  named_slot a (row_at t i).rec k

-- ---- listing: "min(slots left (none past the end), output/264)" slots, "as stored"; "type 0 where 000 .. lists" sticks

unfoldable pub list_slot : List ℕ → DiskINode → ℕ → Out (List ℕ)
list_slot a r k = do
  l ← named_slot a r k
  _ ← ensure (ltb 0 (entry_of l).kind) stuck
  done l

-- n slots from `next` on
unfoldable pub list_to : List ℕ → DiskINode → ℕ → ℕ → Out (List ℕ)
list_to a r next zero = done []
list_to a r next (suc n) = do
  l ← list_to a r next n
  b ← list_slot a r (next + n)
  done (l ++ b)

-- 20: "a slot remains, output under 264 bytes". What is written at the output's start: as many slots as it is long / 264
unfoldable pub call_listing : List ℕ → Table → ℕ → Handle → ℕ → ℕ → Out (List ℕ)
call_listing a t w h next room = do
  _ ← admit a t
  i ← by_handle t w h
  _ ← readable (row_at t i).rec
  _ ← ensure (not (ltb next (row_at t i).rec.blocks && ltb room 264)) out_full
  list_to a (row_at t i).rec next (min ((row_at t i).rec.blocks - next) (room / 264))
