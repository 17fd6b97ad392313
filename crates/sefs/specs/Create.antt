-- Calls that make: format, create, link.
use Rattle.std.specs.Prelude.{Bool, not, ◌&&◌, List, ◌∷◌, ℕ, length, replicate, eqb, ltb, leb}
use Rattle.structs.specs.Types.{is_folder}
use Rattle.structs.specs.Constants.{sefs_magic, type_dir}
use Rattle.base.specs.Out.{Out, done, ensure, ◌>>=◌}
use Rattle.base.specs.Reasons.{bad_arena, invalid_param, is_dir, file_taken, too_many_links, table_full}
use Rattle.base.specs.Search.{pick}
use Rattle.structs.specs.declared.Timespec.{Timespec}
use Rattle.table.specs.declared.Table.{Table}
use Rattle.table.specs.declared.Handle.{Handle}
use Rattle.table.specs.declared.Added.{Added}
use Rattle.table.specs.Table.{empty_table, row_at, can_hold, add_hold}
use Rattle.arena.specs.Blocks.{legal}
use Rattle.arena.specs.Fields.{file}
use Rattle.files.specs.Read.{there}
use Rattle.files.specs.Store.{make_file, cut_file}
use Rattle.sefs.specs.State.{Fs, Meta}
use Rattle.sefs.specs.Meta.{meta_file, sync_meta}
use Rattle.sefs.specs.Nodes.{rec_at, id_at, new_node, sync_row}
use Rattle.sefs.specs.Slots.{lookup}
use Rattle.sefs.specs.Folders.{entry, dirent_init, dirent_append, nlinks_inc}
use Rattle.sefs.specs.Ask.{admit, by_handle, new_name, not_long, known, live_folder, or_exists, start}

-- the arena and the table afterwards
pub record After : Type 0 where
  pub arena : List ℕ
  pub table : Table

abbrev pub after : Fs → After
after s = record { arena = s.arena; table = s.table }

-- the same, and the handle of a hold that was made
pub record Given : Type 0 where
  pub arena : List ℕ
  pub table : Table
  pub handle : Handle

abbrev pub given : Fs → Added → Given
given s n = record { arena = s.arena; table = n.table; handle = n.handle }

-- ---- format (000's SEFS::create): "Fresh: root id 2, mode 493, links 2, slots `.` and `..`"

-- what is in memory before the root is made: one group, bits 0 and 1 clear
abbrev pub fresh_meta : Meta
fresh_meta = record {
  super = record { magic = sefs_magic; blocks = 1024; unused = 1022; groups = 1 };
  maps = 252 ∷ replicate 127 255;
}

unfoldable pub format_steps : List ℕ → Timespec → List ℕ → Out Fs
format_steps zero-arena time name = do
  a ← make_file zero-arena meta_file
  a ← cut_file a meta_file 131072
  o ← new_node (record { arena = a; table = empty_table; meta = done fresh_meta }) type_dir 493 time name
  s ← dirent_init o.state o.row (id_at o.state o.row)
  s ← nlinks_inc s o.row
  s ← nlinks_inc s o.row
  s ← sync_meta s
  sync_row s o.row

-- format takes no table and returns an empty one; the storage is cleared first
unfoldable pub call_format : List ℕ → Timespec → List ℕ → Out (List ℕ)
call_format a time name = do
  _ ← ensure (legal a) bad_arena
  s ← format_steps (replicate (length a) 0) time name
  done s.arena

-- ---- create: 6, 7, 8, 10, 12, 14, 15, 16, then the steps

-- order 8: "Creating type 4 ends." Of the four types a file, a folder and a symlink can be made
abbrev pub can_make : ℕ → Bool
can_make kind = ltb 0 kind && leb kind 3

-- a folder is born with its two slots
unfoldable pub birth : Fs → ℕ → ℕ → ℕ → Out Fs
birth s i c kind = pick (is_folder kind) (dirent_init s c (id_at s i)) (done s)

-- a new folder is named by its own `.` too, and its parent by its `..`
unfoldable pub name_folder : Fs → ℕ → ℕ → Out Fs
name_folder s i c = do
  s ← nlinks_inc s c
  nlinks_inc s i

unfoldable pub named : Fs → ℕ → ℕ → ℕ → Out Fs
named s i c kind = do
  s ← nlinks_inc s c
  pick (is_folder kind) (name_folder s i c) (done s)

unfoldable pub create_steps : Fs → ℕ → ℕ → List ℕ → ℕ → ℕ → Timespec → List ℕ → Out Given
create_steps s w i name kind mode time uuid = do
  o ← new_node s kind mode time uuid
  s ← birth o.state i o.row kind
  s ← dirent_append s i (entry (id_at s o.row) name kind)
  s ← named s i o.row kind
  s ← sync_meta s
  s ← sync_row s o.row
  s ← sync_row s i
  done (given s (add_hold s.table w o.row))

unfoldable pub call_create : List ℕ → Table → ℕ → Handle → List ℕ → ℕ → ℕ → Timespec → List ℕ → Out Given
call_create a t w h name kind mode time uuid = do
  _ ← admit a t
  i ← by_handle t w h
  _ ← new_name name
  _ ← ensure (can_make kind) invalid_param
  _ ← live_folder (row_at t i).rec
  _ ← not_long name
  f ← lookup a (row_at t i).rec name
  _ ← or_exists f
  _ ← ensure (not (there a (file 1 uuid))) file_taken
  _ ← ensure (not (is_folder kind && eqb (row_at t i).rec.nlinks 65535)) too_many_links
  _ ← ensure (can_hold t w) table_full
  create_steps (start a t) w i name kind mode time uuid

-- ---- link: 7, 8, 10, 12, 9 (child a folder), 15, then the steps: slot, child's record, folder's record

unfoldable pub link_steps : Fs → ℕ → List ℕ → ℕ → Out After
link_steps s i name c = do
  s ← dirent_append s i (entry (id_at s c) name (rec_at s c).kind)
  s ← nlinks_inc s c
  s ← sync_row s c
  s ← sync_row s i
  done (after s)

unfoldable pub call_link : List ℕ → Table → ℕ → Handle → List ℕ → Handle → Out After
call_link a t w h name child = do
  _ ← admit a t
  i ← by_handle t w h
  c ← by_handle t w child
  _ ← new_name name
  _ ← live_folder (row_at t i).rec
  _ ← not_long name
  f ← lookup a (row_at t i).rec name
  _ ← or_exists f
  _ ← known (row_at t c).rec
  _ ← ensure (not (is_folder (row_at t c).rec.kind)) is_dir
  _ ← ensure (ltb (row_at t c).rec.nlinks 65535) too_many_links
  link_steps (start a t) i name c
