-- Parts of the definition of the two calls, as the code's functions have them: what is asked, and what goes; `dir` where remove-folder asks.
use Rattle.std.specs.Prelude.{Bool, List, ℕ}
use Rattle.base.specs.Out.{Out, ◌>>=◌}
use Rattle.structs.specs.declared.DiskINode.{DiskINode}
use Rattle.sefs.specs.State.{Fs}
use Rattle.sefs.specs.Nodes.{rec_at, get_node, sync_row}
use Rattle.sefs.specs.Folders.{dirent_node_remove}
use Rattle.sefs.specs.Ask.{good_name, not_long, not_special, live_folder}
use Rattle.sefs.specs.Remove.{removable}

-- 9, 10
unfoldable pub name_asks : List ℕ → Out Unit
name_asks name = do
  _ ← not_special name
  not_long name

-- 5, 7, 8, 9, 10
unfoldable pub remove_asks : DiskINode → List ℕ → Out Unit
remove_asks r name = do
  _ ← good_name name
  _ ← live_folder r
  name_asks name

-- slot k of folder i, which names node c, goes, and the folder's record is stored
unfoldable pub remove_node : Fs → ℕ → ℕ → ℕ → Out Fs
remove_node s i c k = do
  s ← dirent_node_remove s i c k
  sync_row s i

-- the slot names the node by its id
unfoldable pub remove_id : Bool → Fs → ℕ → ℕ → ℕ → Out Fs
remove_id dir s i id k = do
  o ← get_node s id
  _ ← removable dir (rec_at o.state o.row)
  remove_node o.state i o.row k
