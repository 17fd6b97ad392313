-- The parts of the call link, as the code's functions have them.
use Rattle.std.specs.Prelude.{◌≡◌, true, not, List, ℕ, ◌<◌, ◌≤◌, length, ltb}
use Rattle.structs.specs.Types.{is_folder}
use Rattle.structs.specs.declared.DiskINode.{DiskINode}
use Rattle.base.specs.Out.{Out, ensure, ◌>>=◌}
use Rattle.base.specs.Reasons.{is_dir, too_many_links}
use Rattle.arena.specs.Blocks.{legal}
use Rattle.sefs.specs.State.{Fs}
use Rattle.sefs.specs.Nodes.{rec_at, id_at}
use Rattle.sefs.specs.Folders.{entry, dirent_append, nlinks_inc}
use Rattle.sefs.specs.Ask.{new_name, not_long, known, live_folder}
use Rattle.mem.specs.Mem.{Whole}
use Rattle.steps.specs.Steps.{no_slot, sync_two}

-- 5, 7, 8, 10: of the folder's record, and of the name
unfoldable pub link_ask : DiskINode → List ℕ → Out Unit
link_ask r name = do
  _ ← new_name name
  _ ← live_folder r
  not_long name

-- 9 where the child is a folder, 15
unfoldable pub link_child : DiskINode → Out Unit
link_child r = do
  _ ← known r
  _ ← ensure (not (is_folder r.kind)) is_dir
  ensure (ltb r.nlinks 65535) too_many_links

-- the slot, the child's count, the records
unfoldable pub link_moves : Fs → ℕ → List ℕ → ℕ → Out Fs
link_moves s i name c = do
  s ← dirent_append s i (entry (id_at s c) name (rec_at s c).kind)
  s ← nlinks_inc s c
  sync_two s i c

-- what is asked once the handles are known, and the steps
unfoldable pub link_work : Fs → ℕ → List ℕ → ℕ → Out Fs
link_work s i name c = do
  _ ← link_ask (rec_at s i) name
  _ ← no_slot s.arena (rec_at s i) name
  _ ← link_child (rec_at s c)
  link_moves s i name c

-- what is known once nothing refused: the arena a, the memory m, the name, and the rows of folder and child
pub record Asked (a m name : List ℕ) (i c : ℕ) : Type 0 where
  pub legal : legal a ≡ true
  pub whole : Whole m
  pub folder : i < 34
  pub child : c < 34
  pub short : length name ≤ 255
