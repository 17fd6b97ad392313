-- The parts of the call format, as the code's functions have them.
use Rattle.std.specs.Prelude.{List, ℕ, length, replicate}
use Rattle.structs.specs.Constants.{type_dir}
use Rattle.structs.specs.declared.Timespec.{Timespec}
use Rattle.base.specs.Out.{Out, done, bind, ◌>>=◌}
use Rattle.table.specs.Table.{empty_table}
use Rattle.files.specs.Store.{make_file, cut_file}
use Rattle.sefs.specs.State.{Fs, with_arena}
use Rattle.sefs.specs.Meta.{meta_file, sync_meta}
use Rattle.sefs.specs.Nodes.{id_at, new_node, sync_row}
use Rattle.sefs.specs.Folders.{dirent_init, nlinks_inc}
use Rattle.sefs.specs.Create.{After}
use Rattle.mem.specs.State.{fs_at}

-- the metadata file, as long as one group
unfoldable pub make_meta : List ℕ → Out (List ℕ)
make_meta a = do
  a ← make_file a meta_file
  cut_file a meta_file 131072

-- a folder's own `.`, and the `..` that names it
unfoldable pub name_twice : Fs → ℕ → Out Fs
name_twice s i = do
  s ← nlinks_inc s i
  nlinks_inc s i

-- superblock and maps, then the record of row i
unfoldable pub sync_both : Fs → ℕ → Out Fs
sync_both s i = do
  s ← sync_meta s
  sync_row s i

-- the root's slots, its link count, the stores
unfoldable pub fill_root : Fs → ℕ → Out Fs
fill_root s i = do
  s ← dirent_init s i (id_at s i)
  s ← name_twice s i
  sync_both s i

-- the steps, on a state whose arena is zeros
unfoldable pub format_work : Fs → Timespec → List ℕ → Out Fs
format_work s time name = do
  a ← make_meta s.arena
  o ← new_node (with_arena s a) type_dir 493 time name
  fill_root o.state o.row

-- an arena of zeros, as long as a, and what memory has
unfoldable pub cleared : List ℕ → List ℕ → Fs
cleared a m = fs_at (replicate (length a) 0) m

-- format returns an empty table with the arena that its definition gives
abbrev pub formatted : Out (List ℕ) → Out After
formatted o = bind o (λ a. done (record { arena = a; table = empty_table }))

-- the same, from the state that the steps leave
abbrev pub emptied : Out Fs → Out After
emptied o = bind o (λ s. done (record { arena = s.arena; table = empty_table }))
