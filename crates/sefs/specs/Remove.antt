-- remove-file and remove-folder, order 9: "Split unlink into remove-file and remove-folder". One body, which is 000's unlink, with two questions
-- about the node that goes: 7, 8, 9 (`.`, `..`, empty), 10, 11, then 9, or 7 and 13, then the steps.
use Rattle.std.specs.Prelude.{Bool, true, false, not, List, ℕ, leb}
use Rattle.structs.specs.Types.{is_folder}
use Rattle.base.specs.Out.{Out, done, ensure, ◌>>=◌}
use Rattle.base.specs.Reasons.{is_dir, dir_not_empty, stuck}
use Rattle.base.specs.Search.{pick}
use Rattle.structs.specs.declared.DiskINode.{DiskINode}
use Rattle.table.specs.declared.Table.{Table}
use Rattle.table.specs.declared.Handle.{Handle}
use Rattle.table.specs.Table.{row_at}
use Rattle.sefs.specs.State.{Fs}
use Rattle.sefs.specs.Nodes.{rec_at, get_node, sync_row}
use Rattle.sefs.specs.Slots.{find_slot}
use Rattle.sefs.specs.Folders.{dirent_node_remove}
use Rattle.sefs.specs.Ask.{admit, by_handle, good_name, not_long, not_special, type_in_range, folder, live_folder, start}
use Rattle.sefs.specs.Create.{After, after}

-- "9 from remove-file on a folder"
abbrev pub not_folder : DiskINode → Out Unit
not_folder r = ensure (not (is_folder r.kind)) is_dir

-- "7 from remove-folder on anything else". A folder has at least 2 slots (it sticks otherwise), and here no more: 13
unfoldable pub empty_folder : DiskINode → Out Unit
empty_folder r = do
  _ ← folder r
  _ ← ensure (leb 2 r.blocks) stuck
  ensure (leb r.blocks 2) dir_not_empty

-- 000 looks at the type, so one above 4 sticks; then each call's own question, remove-folder's where `dir`
unfoldable pub removable : Bool → DiskINode → Out Unit
removable dir r = do
  _ ← type_in_range r
  pick dir (empty_folder r) (not_folder r)

-- 000's unlink: "The child of unlink .. that nobody else holds is stored and, at links 0, freed inside the removal, before the folder's own record"
unfoldable pub remove_steps : Fs → ℕ → ℕ → ℕ → Out After
remove_steps s i c k = do
  s ← dirent_node_remove s i c k
  s ← sync_row s i
  done (after s)

unfoldable pub call_remove : Bool → List ℕ → Table → ℕ → Handle → List ℕ → Out After
call_remove dir a t w h name = do
  _ ← admit a t
  i ← by_handle t w h
  _ ← good_name name
  _ ← live_folder (row_at t i).rec
  _ ← not_special name
  _ ← not_long name
  s ← find_slot a (row_at t i).rec name
  o ← get_node (start a t) s.entry.id
  _ ← removable dir (rec_at o.state o.row)
  remove_steps o.state i o.row s.place

abbrev pub call_remove_file : List ℕ → Table → ℕ → Handle → List ℕ → Out After
call_remove_file a t w h name = call_remove false a t w h name

abbrev pub call_remove_folder : List ℕ → Table → ℕ → Handle → List ℕ → Out After
call_remove_folder a t w h name = call_remove true a t w h name
