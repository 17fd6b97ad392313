-- Order 11, "Mending after a host went down": what goes, what the others become, and the stores in the order's order.
use Rattle.std.specs.Prelude.{Bool, not, ◌&&◌, List, ℕ, zero, suc, ◌+◌, ◌*◌, eqb}
use Rattle.base.specs.Decides.{same}
use Rattle.base.specs.Out.{Out, done, ensure, ◌>>=◌}
use Rattle.base.specs.Reasons.{wrong_fs, in_use}
use Rattle.base.specs.Search.{pick}
use Rattle.structs.specs.Layout.{record_bytes}
use Rattle.structs.specs.Types.{is_folder}
use Rattle.structs.specs.declared.DiskINode.{DiskINode}
use Rattle.table.specs.declared.Table.{Table}
use Rattle.table.specs.Table.{no_holds}
use Rattle.files.specs.Read.{length_of}
use Rattle.files.specs.Store.{put_file, drop_file}
use Rattle.sefs.specs.State.{Fs, with_arena}
use Rattle.sefs.specs.Meta.{meta_file, free_block, sync_meta}
use Rattle.sefs.specs.Nodes.{node_file}
use Rattle.sefs.specs.Records.{with_links, with_size}
use Rattle.sefs.specs.Ask.{admit, start}
use Rattle.rules.specs.Image.{ids_in, is_node, stored_bytes, subfolders}
use Rattle.mending.specs.Mendable.{rec_in, times_named, mendable}

-- ---- what goes, and what stays. In all of this a is the arena as it came

-- "It frees each node but root that no later slot names"
unfoldable pub lost : List ℕ → ℕ → Bool
lost a id = is_node a id && (not (eqb id 2) && eqb (times_named a id) 0)

unfoldable pub stays : List ℕ → ℕ → Bool
stays a id = is_node a id && not (lost a id)

-- "sets .. all link counts by rule 7 from the slots and each non-folder's size from its file". (A count fits: no arena has 65,536 slots.)
unfoldable pub mended : List ℕ → ℕ → DiskINode
mended a id =
    pick (is_folder (rec_in a id).kind) (with_links (rec_in a id) (2 + subfolders a (rec_in a id)))
    (with_size (with_links (rec_in a id) (times_named a id)) (length_of a (node_file (rec_in a id))))

-- "changed records"
unfoldable pub changed : List ℕ → ℕ → Bool
changed a id = stays a id && not (same (record_bytes (mended a id)) (stored_bytes a id))

-- ---- the steps. s is the state that the steps so far have left

-- a node is freed: its bit is set and unused rises, in memory; "removes its file". Its record stays as it is
unfoldable pub free_one : List ℕ → Fs → ℕ → Out Fs
free_one a s id = do
  s ← free_block s id
  d ← drop_file s.arena (node_file (rec_in a id))
  done (with_arena s d)

-- a record is stored whole
unfoldable pub store_one : List ℕ → Fs → ℕ → Out Fs
store_one a s id = do
  d ← put_file s.arena meta_file (128 * id) (record_bytes (mended a id))
  done (with_arena s d)

-- "Files go first": of the first n ids
unfoldable pub free_to : List ℕ → Fs → ℕ → Out Fs
free_to a s zero = done s
free_to a s (suc n) = do
  d ← free_to a s n
  pick (lost a n) (free_one a d n) (done d)

-- "then changed records are stored by rising id"
unfoldable pub store_to : List ℕ → Fs → ℕ → Out Fs
store_to a s zero = done s
store_to a s (suc n) = do
  d ← store_to a s n
  pick (changed a n) (store_one a d n) (done d)

-- "then superblock, then maps"
unfoldable pub mend_steps : List ℕ → Fs → Out Fs
mend_steps a s = do
  s ← free_to a s (ids_in a)
  s ← store_to a s (ids_in a)
  sync_meta s

-- ---- the call: "Refusals: 1, 2, 3; 24 InUse if any hold is live; 18 if those conditions fail; then 17." The arena afterwards; the table stays

unfoldable pub call_mend : List ℕ → Table → Out (List ℕ)
call_mend a t = do
  _ ← admit a t
  _ ← ensure (no_holds t) in_use
  _ ← ensure (mendable a) wrong_fs
  s ← mend_steps a (start a t)
  done s.arena
