-- Calls that open: open, root, find. They change no byte of the arena.
use Rattle.std.specs.Prelude.{not, ◌&&◌, List, ℕ, eqb, ltb}
use Rattle.structs.specs.Constants.{sefs_magic}
use Rattle.base.specs.Out.{Out, done, ensure, ◌>>=◌}
use Rattle.base.specs.Reasons.{dir_removed, table_full, wrong_fs}
use Rattle.structs.specs.Layout.{super_of}
use Rattle.utf8.specs.Names.{is_dots}
use Rattle.table.specs.declared.Table.{Table}
use Rattle.table.specs.declared.Handle.{Handle}
use Rattle.table.specs.declared.Added.{Added}
use Rattle.table.specs.Table.{empty_table, row_at, can_hold, add_hold}
use Rattle.files.specs.Read.{read_file}
use Rattle.sefs.specs.State.{Fs}
use Rattle.sefs.specs.Meta.{meta_file, load_maps}
use Rattle.sefs.specs.Nodes.{get_node}
use Rattle.sefs.specs.Slots.{find_slot}
use Rattle.sefs.specs.Ask.{admit_arena, admit, an_owner, by_handle, good_name, not_long, known, folder, start}

-- ---- open: "18: magic, or groups not 1 to 4". The superblock is read before, the maps after

unfoldable pub call_open : List ℕ → Out Table
call_open a = do
  _ ← admit_arena a
  l ← read_file a meta_file 0 16
  _ ← ensure (eqb (super_of l).magic sefs_magic && (ltb 0 (super_of l).groups && ltb (super_of l).groups 5)) wrong_fs
  m ← load_maps a (super_of l).groups
  done empty_table

-- ---- a node opened with a hold of its own: "Each successful root, find or create makes its own hold with the next stamp"

unfoldable pub hold_node : Fs → ℕ → ℕ → Out Added
hold_node s w id = do
  o ← get_node s id
  done (add_hold o.state.table w o.row)

-- ---- root: 6, 16, then the opening

unfoldable pub call_root : List ℕ → Table → ℕ → Out Added
call_root a t w = do
  _ ← admit a t
  _ ← an_owner w
  _ ← ensure (can_hold t w) table_full
  hold_node (start a t) w 2

-- ---- find: 7, 10, 8 (only `..`), 11, 16, then the opening

unfoldable pub call_find : List ℕ → Table → ℕ → Handle → List ℕ → Out Added
call_find a t w h name = do
  _ ← admit a t
  i ← by_handle t w h
  _ ← good_name name
  _ ← known (row_at t i).rec
  _ ← folder (row_at t i).rec
  _ ← not_long name
  _ ← ensure (not (is_dots name && eqb (row_at t i).rec.nlinks 0)) dir_removed
  s ← find_slot a (row_at t i).rec name
  _ ← ensure (can_hold t w) table_full
  hold_node (start a t) w s.entry.id
