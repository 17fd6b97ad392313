-- The state that the code's three slices are: the arena and the workspace beside it, and what is in memory.
use Rattle.std.specs.Prelude.{List, ℕ, ◌+◌, ◌≤◌}
use Rattle.base.specs.Out.{Out, Went}
use Rattle.overlay.specs.View.{view, left, Fine}
use Rattle.sefs.specs.State.{Fs}
use Rattle.mem.specs.Mem.{table_in, meta_in, Whole}

-- an arena as it is, and the memory
abbrev pub fs_at : List ℕ → List ℕ → Fs
fs_at a m = record { arena = a; table = table_in m; meta = meta_in m }

-- the arena as it would be, and the memory
unfoldable pub fs_of : List ℕ → List ℕ → List ℕ → Fs
fs_of a w m = fs_at (view a w) m

-- the slices fit each other
pub record Ready (a w m : List ℕ) : Type 0 where
  pub fine : Fine a w
  pub whole : Whole m

-- they still do, and at most k blocks of the workspace were taken
pub record Still (a w u m : List ℕ) (k : ℕ) : Type 0 where
  pub fine : Fine a u
  pub whole : Whole m
  pub room : left w ≤ left u + k

-- a step that its definition sends from the state to o answers, by its code r: the workspace was w and is u, the memory is n, and at most k blocks were taken
abbrev pub Stepped : Out Fs → List ℕ → List ℕ → List ℕ → List ℕ → ℕ → ℕ → Type 0
Stepped o a w u n k r = Went o (fs_of a u n) (Still a w u n k) r
