-- Folders: slots written and removed, and link counts (000's INodeImpl). A folder is a row of the table of open nodes.
use Rattle.std.specs.Prelude.{List, [], ◌∷◌, ℕ, ◌+◌, ◌*◌, ◌-◌, eqb, ltb}
use Rattle.structs.specs.Types.{is_folder}
use Rattle.structs.specs.Constants.{type_dir}
use Rattle.base.specs.Out.{Out, done, guard, ◌>>=◌}
use Rattle.base.specs.Reasons.{stuck, too_many_links}
use Rattle.base.specs.Search.{pick}
use Rattle.structs.specs.Layout.{entry_bytes}
use Rattle.structs.specs.declared.DiskEntry.{DiskEntry}
use Rattle.utf8.specs.Names.{name_bytes}
use Rattle.files.specs.Store.{put_file, cut_file}
use Rattle.sefs.specs.State.{Fs, with_arena}
use Rattle.sefs.specs.Records.{with_links, with_blocks}
use Rattle.sefs.specs.Nodes.{node_file, rec_at, id_at, set_rec, release}
use Rattle.sefs.specs.Slots.{slot_bytes}

-- a slot: "a new slot is zero after its name"
abbrev pub entry : ℕ → List ℕ → ℕ → DiskEntry
entry id name kind = record { id = id; name = name_bytes name; kind = kind }

-- slot 1 of a folder below that one
abbrev pub dots_entry : ℕ → DiskEntry
dots_entry parent = entry parent (46 ∷ 46 ∷ []) type_dir

-- 264 bytes at slot k of folder i
unfoldable pub put_slot : Fs → ℕ → ℕ → List ℕ → Out Fs
put_slot s i k l = do
  a ← put_file s.arena (node_file (rec_at s i)) (264 * k) l
  done (with_arena s a)

-- 000's dirent_init: two slots, `.` with the folder's own id and `..` with its parent's
unfoldable pub dirent_init : Fs → ℕ → ℕ → Out Fs
dirent_init s i parent = do
  s ← done (set_rec s i (with_blocks (rec_at s i) 2))
  s ← put_slot s i 0 (entry_bytes (entry (id_at s i) (46 ∷ []) type_dir))
  put_slot s i 1 (entry_bytes (dots_entry parent))

-- 000's dirent_append: a slot at the end. (The count can't overflow: the store is too long first.)
unfoldable pub dirent_append : Fs → ℕ → DiskEntry → Out Fs
dirent_append s i e = do
  s ← put_slot s i (rec_at s i).blocks (entry_bytes e)
  done (set_rec s i (with_blocks (rec_at s i) ((rec_at s i).blocks + 1)))

-- 000's dirent_remove: "Removing a slot copies the last over it and shortens the file", whole, 264 bytes
unfoldable pub dirent_remove : Fs → ℕ → ℕ → Out Fs
dirent_remove s i k =
    guard (ltb 0 (rec_at s i).blocks) stuck (do
      l ← slot_bytes s.arena (rec_at s i) ((rec_at s i).blocks - 1)
      s ← pick (eqb k ((rec_at s i).blocks - 1)) (done s) (put_slot s i k l)
      a ← cut_file s.arena (node_file (rec_at s i)) (264 * ((rec_at s i).blocks - 1))
      done (set_rec (with_arena s a) i (with_blocks (rec_at s i) ((rec_at s i).blocks - 1))))

-- 15, "a link count of 65,535 would rise"
unfoldable pub nlinks_inc : Fs → ℕ → Out Fs
nlinks_inc s i = guard (ltb (rec_at s i).nlinks 65535) too_many_links (done (set_rec s i (with_links (rec_at s i) ((rec_at s i).nlinks + 1))))

-- it asserts that the count is above 0
unfoldable pub nlinks_dec : Fs → ℕ → Out Fs
nlinks_dec s i = guard (ltb 0 (rec_at s i).nlinks) stuck (done (set_rec s i (with_links (rec_at s i) ((rec_at s i).nlinks - 1))))

-- a removed folder is named once less, by its own `.` too, and its parent by its `..`
unfoldable pub unlink_folder : Fs → ℕ → ℕ → Out Fs
unlink_folder s i c = do
  s ← nlinks_dec s c
  nlinks_dec s i

-- 000's dirent_inode_remove: slot k, which names node c, is removed from folder i, and c's own opening ends
unfoldable pub dirent_node_remove : Fs → ℕ → ℕ → ℕ → Out Fs
dirent_node_remove s i c k = do
  s ← dirent_remove s i k
  s ← nlinks_dec s c
  s ← pick (is_folder (rec_at s c).kind) (unlink_folder s i c) (done s)
  release s c
