-- The parts of the call create, as the code's functions have them.
use Rattle.std.specs.Prelude.{◌≡◌, Bool, true, not, ◌&&◌, List, ℕ, ◌<◌, ◌≤◌, length, eqb}
use Rattle.structs.specs.Types.{is_folder}
use Rattle.structs.specs.declared.DiskINode.{DiskINode}
use Rattle.structs.specs.declared.Timespec.{Timespec}
use Rattle.base.specs.Out.{Out, done, ensure, ◌>>=◌}
use Rattle.base.specs.Reasons.{invalid_param, file_taken, too_many_links, table_full}
use Rattle.arena.specs.Blocks.{legal}
use Rattle.arena.specs.Fields.{file}
use Rattle.files.specs.Read.{there}
use Rattle.sefs.specs.State.{Fs}
use Rattle.sefs.specs.Meta.{sync_meta}
use Rattle.sefs.specs.Nodes.{rec_at, id_at, new_node, Opened, opened}
use Rattle.sefs.specs.Folders.{entry, dirent_append}
use Rattle.sefs.specs.Ask.{new_name, not_long, live_folder}
use Rattle.sefs.specs.Create.{can_make, birth, named}
use Rattle.mem.specs.Mem.{Whole}
use Rattle.steps.specs.Steps.{no_slot, sync_two}

-- 5, 6, 7, 8, 10: of the folder's record, the name and the type
unfoldable pub create_ask : DiskINode → List ℕ → ℕ → Out Unit
create_ask r name kind = do
  _ ← new_name name
  _ ← ensure (can_make kind) invalid_param
  _ ← live_folder r
  not_long name

-- 12, 14, 15, 16; `room`: whether the table can hold one more
unfoldable pub create_free : List ℕ → DiskINode → List ℕ → ℕ → List ℕ → Bool → Out Unit
create_free a r name kind uuid room = do
  _ ← no_slot a r name
  _ ← ensure (not (there a (file 1 uuid))) file_taken
  _ ← ensure (not (is_folder kind && eqb r.nlinks 65535)) too_many_links
  ensure room table_full

-- superblock and maps, the node's record, the folder's record
unfoldable pub create_sync : Fs → ℕ → ℕ → Out Fs
create_sync s i c = do
  s ← sync_meta s
  sync_two s i c

-- what comes after the node is made: slots, link counts, stores
unfoldable pub create_rest : Fs → ℕ → ℕ → List ℕ → ℕ → Out Fs
create_rest s i c name kind = do
  s ← birth s i c kind
  s ← dirent_append s i (entry (id_at s c) name kind)
  s ← named s i c kind
  create_sync s i c

unfoldable pub create_moves : Fs → ℕ → List ℕ → ℕ → ℕ → Timespec → List ℕ → Out Opened
create_moves s i name kind mode time uuid = do
  o ← new_node s kind mode time uuid
  s ← create_rest o.state i o.row name kind
  done (opened s o.row)

-- what is asked once the handle is known, and the steps
unfoldable pub create_work : Fs → ℕ → List ℕ → ℕ → ℕ → Timespec → List ℕ → Bool → Out Opened
create_work s i name kind mode time uuid room = do
  _ ← create_ask (rec_at s i) name kind
  _ ← create_free s.arena (rec_at s i) name kind uuid room
  create_moves s i name kind mode time uuid

-- what is known once nothing refused: the arena a, the memory m, the name, and the folder's row
pub record Asked (a m name : List ℕ) (i : ℕ) : Type 0 where
  pub legal : legal a ≡ true
  pub whole : Whole m
  pub folder : i < 34
  pub short : length name ≤ 255
