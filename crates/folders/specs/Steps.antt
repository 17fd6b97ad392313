-- Parts of the definitions of folders, as the code's functions have them.
use Rattle.std.specs.Prelude.{◌≡◌, List, ℕ, ◌*◌, ◌-◌}
use Rattle.base.specs.Out.{Out, done, ◌>>=◌}
use Rattle.base.specs.Search.{pick}
use Rattle.structs.specs.Types.{is_folder}
use Rattle.structs.specs.declared.DiskINode.{DiskINode}
use Rattle.files.specs.Store.{cut_file}
use Rattle.sefs.specs.State.{Fs, with_arena}
use Rattle.sefs.specs.Records.{with_links, with_blocks}
use Rattle.sefs.specs.Nodes.{node_file, rec_at, set_rec}
use Rattle.sefs.specs.Folders.{unlink_folder}
use Rattle.mem.specs.Mem.{Whole}
use Rattle.mem.specs.State.{fs_of}

-- the memory was m and is n: row i has another record, made of the one that it had
pub record Recorded (m n : List ℕ) (i : ℕ) (f : DiskINode → DiskINode) : Type 0 where
  pub is : (a w : List ℕ) → fs_of a w n ≡ set_rec (fs_of a w m) i (f (rec_at (fs_of a w m) i))
  pub whole : Whole n

abbrev pub Blocked : List ℕ → List ℕ → ℕ → ℕ → Type 0
Blocked m n i x = Recorded m n i (λ r. with_blocks r x)

abbrev pub Linked : List ℕ → List ℕ → ℕ → ℕ → Type 0
Linked m n i x = Recorded m n i (λ r. with_links r x)

-- the end of dirent_remove: the file loses its last slot
abbrev pub shortened : Fs → ℕ → Out Fs
shortened s i = do
  a ← cut_file s.arena (node_file (rec_at s i)) (264 * ((rec_at s i).blocks - 1))
  done (set_rec (with_arena s a) i (with_blocks (rec_at s i) ((rec_at s i).blocks - 1)))

-- a step of dirent_node_remove: where node c is a folder, its own slots name it and folder i no more
abbrev pub unlink_dots : Fs → ℕ → ℕ → Out Fs
unlink_dots s i c = pick (is_folder (rec_at s c).kind) (unlink_folder s i c) (done s)
