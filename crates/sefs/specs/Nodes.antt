-- Nodes: opened, made, stored and dropped (000's SEFS and INodeImpl's Drop). A node in use has a row in the table of open nodes.
use Rattle.std.specs.Prelude.{Bool, true, false, not, ◌&&◌, List, ℕ, ◌*◌, eqb, leb, Option, Some, None}
use Rattle.base.specs.Out.{Out, done, refused, guard, ◌>>=◌}
use Rattle.base.specs.Reasons.{stuck}
use Rattle.base.specs.Search.{pick}
use Rattle.structs.specs.Layout.{record_of, record_bytes}
use Rattle.structs.specs.declared.DiskINode.{DiskINode}
use Rattle.structs.specs.declared.Timespec.{Timespec}
use Rattle.table.specs.Table.{row_at, row_of, free_row, take_row, with_dirty, free_row_at, row_used}
use Rattle.arena.specs.Fields.{File, file}
use Rattle.files.specs.Read.{there, read_file}
use Rattle.files.specs.Store.{put_file, make_file, drop_file}
use Rattle.sefs.specs.State.{Fs, with_arena, with_table}
use Rattle.sefs.specs.Records.{new_record}
use Rattle.sefs.specs.Meta.{meta_file, is_used, alloc_block, free_block, sync_meta}

-- "Byte 1: .. 1 node file", by the record's file name
abbrev pub node_file : DiskINode → File
node_file r = file 1 r.file

-- the record that is cached in row i
abbrev pub rec_at : Fs → ℕ → DiskINode
rec_at s i = (row_at s.table i).rec

abbrev pub id_at : Fs → ℕ → ℕ
id_at s i = (row_at s.table i).id

-- row i with another record: any change marks it dirty
abbrev pub set_rec : Fs → ℕ → DiskINode → Fs
set_rec s i r = with_table s (take_row s.table i (id_at s i) r true)

-- a state, and the row of the node that was opened
pub record Opened : Type 0 where
  pub state : Fs
  pub row : ℕ

abbrev pub opened : Fs → ℕ → Opened
opened s i = record { state = s; row = i }

-- a node takes the lowest free row. (There is one: an operation's own openings are two at the most.)
abbrev pub open_in : Fs → ℕ → DiskINode → Bool → Option ℕ → Out Opened
open_in s id r dirty (Some i) = done (opened (with_table s (take_row s.table i id r dirty)) i)
open_in s id r dirty None = refused stuck

-- ---- 000's get_inode: it asserts that the id's bit is clear, then takes the row that the id has, or loads the record and finds its file.
-- "Stuck is .. a type above 4 read, .. opening id 0 or an id beyond the maps"

unfoldable pub load_node : Fs → ℕ → Out Opened
load_node s id = do
  l ← read_file s.arena meta_file (128 * id) 112
  guard (leb (record_of l).kind 4) stuck (guard (there s.arena (node_file (record_of l))) stuck
      (open_in s id (record_of l) false (free_row s.table)))

abbrev pub open_at : Fs → ℕ → Option ℕ → Out Opened
open_at s id (Some i) = done (opened s i)
open_at s id None = load_node s id

unfoldable pub get_node : Fs → ℕ → Out Opened
get_node s id = do
  m ← s.meta
  guard (is_used m id) stuck (open_at s id (row_of s.table id))

-- ---- 000's new_inode: an id, a file, and a row with a dirty record. An id of 0 or one that has a row sticks before the file is made

abbrev pub no_row : Option ℕ → Bool
no_row (Some i) = false
no_row None = true

unfoldable pub new_node : Fs → ℕ → ℕ → Timespec → List ℕ → Out Opened
new_node s kind mode time name = do
  n ← alloc_block s
  guard (not (eqb n.id 0) && no_row (row_of n.state.table n.id)) stuck (do
    a ← make_file n.state.arena (file 1 name)
    open_in (with_arena n.state a) n.id (new_record kind mode time name) true (free_row n.state.table))

-- ---- 000's sync_metadata of a node: a dirty record is stored at 128 x id

unfoldable pub store_row : Fs → ℕ → Out Fs
store_row s i = do
  a ← put_file s.arena meta_file (128 * id_at s i) (record_bytes (rec_at s i))
  done (with_table (with_arena s a) (with_dirty s.table i false))

unfoldable pub sync_row : Fs → ℕ → Out Fs
sync_row s i = pick (row_at s.table i).dirty (store_row s i) (done s)

-- ---- 000's Drop of a node: a dirty record is stored; "at links 0 it then frees the id, raises unused, stores superblock and maps and
-- removes the file". The row becomes free

unfoldable pub free_node : Fs → ℕ → Out Fs
free_node s i = do
  s ← free_block s (id_at s i)
  s ← sync_meta s
  a ← drop_file s.arena (node_file (rec_at s i))
  done (with_arena s a)

unfoldable pub drop_node : Fs → ℕ → Out Fs
drop_node s i = do
  s ← sync_row s i
  s ← pick (eqb (rec_at s i).nlinks 0) (free_node s i) (done s)
  done (with_table s (free_row_at s.table i))

-- an operation's own opening ends: where nobody holds the node, it is dropped
unfoldable pub release : Fs → ℕ → Out Fs
release s i = pick (row_used s.table i) (done s) (drop_node s i)
