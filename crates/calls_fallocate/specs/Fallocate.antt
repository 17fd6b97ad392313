-- How fallocate is decided before any store, as the code decides it.
use Rattle.std.specs.Prelude.{◌≡◌, true, false, List, ℕ, ◌+◌, ◌-◌, ◌≤◌, ◌<◌, min}
use Rattle.base.specs.Out.{Out, done, refused, ◌>>=◌}
use Rattle.structs.specs.declared.DiskINode.{DiskINode}
use Rattle.table.specs.declared.Table.{Table}
use Rattle.table.specs.declared.Handle.{Handle}
use Rattle.table.specs.Table.{row_at}
use Rattle.arena.specs.Blocks.{blocks}
use Rattle.arena.specs.Fields.{File}
use Rattle.arena.specs.Places.{head_of}
use Rattle.sound.specs.Sound.{sound}
use Rattle.files.specs.Read.{there, length_of}
use Rattle.files.specs.Store.{longest}
use Rattle.sefs.specs.Nodes.{node_file}
use Rattle.sefs.specs.Ask.{start}
use Rattle.sefs.specs.Create.{after}
use Rattle.sefs.specs.Contents.{not_too_big}
use Rattle.ranges.specs.Ranges.{plain_file, fits_mode, mode_steps, call_fallocate}
use Rattle.ranges.specs.Says.{says_on}
use Rattle.ranges.specs.declared.FallocateMode.{FallocateMode}
use Rattle.ranges.specs.declared.FallocateMode.TheVariants.{Allocate, PunchHoleKeepSize, ZeroRange, ZeroRangeKeepSize, CollapseRange, InsertRange, Unknown}
use Rattle.plans.specs.Plan.{Planned, Sourced}
use Rattle.steps.specs.Ends.{ending}
use Rattle.sizes.specs.Sizes.{Reached}
use Rattle.calls_fallocate.specs.declared.Ranging.{Ranging}

-- 21, 22, 6 and 22, of a node's record
unfoldable pub ask_range : DiskINode → FallocateMode → ℕ → ℕ → Out Unit
ask_range r mode from len = do
  _ ← plain_file r
  _ ← not_too_big (from + len)
  fits_mode mode r.size from len

-- ---- the decision

-- bytes can be copied inside a file that is not shorter than its size: it is known where the blocks are of m bytes from `at` on, which are written,
-- and of n bytes from `src` on, which are read
pub record Copyable (a : List ℕ) (f : File) (size at m src n : ℕ) (places source : List ℕ) : Type 0 where
  pub long : size ≤ length_of a f
  pub plan : Planned a f at m places
  pub read : Sourced a f src n source

-- what a mode's stores need beside the file, of that size
abbrev pub Provided : FallocateMode → List ℕ → File → ℕ → ℕ → ℕ → List ℕ → List ℕ → Type 0
Provided (Allocate keep) a f size from len places source = keep ≡ false
Provided PunchHoleKeepSize a f size from len places source = Planned a f (min from size) (min (from + len) size - min from size) places
Provided ZeroRangeKeepSize a f size from len places source = Planned a f (min from size) (min (from + len) size - min from size) places
Provided ZeroRange a f size from len places source = Planned a f from len places
Provided CollapseRange a f size from len places source = (from + len < size) × (size ≤ longest)
    × (0 < len → Copyable a f size from (size - (from + len)) (from + len) (size - (from + len)) places source)
Provided InsertRange a f size from len places source = (from < size) × (size + len ≤ longest)
    × (0 < len → Copyable a f size from (len + (size - from)) from (size - from) places source)
-- (refused before)
Provided Unknown a f size from len places source = ⊥

-- the code that decides a mode of a file that is there answers, by its code r: the call's own number; and where it is 0, its stores have what they need
pub record Resolved (mode : FallocateMode) (a : List ℕ) (f : File) (size from len : ℕ) (places source : List ℕ) (r : ℕ) : Type 0 where
  pub says : r ≡ says_on mode a f size from len
  pub has : r ≡ 0 → Provided mode a f size from len places source

-- ---- the call

-- a file whose head is block k, in an arena that is sound
pub record HeadKnown (a : List ℕ) (f : File) (k : ℕ) : Type 0 where
  pub most : blocks a ≤ 4096
  pub fine : sound a ≡ true
  pub exists : there a f ≡ true
  pub head : k ≡ head_of a f

-- nothing refuses the stores of row i, whose file's head is block k
pub record Supplied (a : List ℕ) (t : Table) (i k : ℕ) (mode : FallocateMode) (from len : ℕ) (places source : List ℕ) : Type 0 where
  pub most : blocks a ≤ 4096
  pub reached : Reached a t i k (from + len)
  pub supply : Provided mode a (node_file (row_at t i).rec) (row_at t i).rec.size from len places source

-- what stands for a ranging where none is given
abbrev pub no_ranging : Ranging
no_ranging = record { idle = true; row = 0; head = 0 }

-- the code that asks what the call asks, and decides it, answers, by its code n: the call's reason; or where n is 0, r: that it does nothing; or where its
-- stores go
pub record Ranged (a : List ℕ) (t : Table) (who : ℕ) (h : Handle) (mode : FallocateMode) (from len : ℕ) (places source : List ℕ) (r : Ranging) (n : ℕ) : Type 0 where
  pub refuses : (n ≡ 0 → ⊥) → call_fallocate a t who h mode from len ≡ refused n
  pub idles : n ≡ 0 → r.idle ≡ true → call_fallocate a t who h mode from len ≡ done (after (start a t))
  pub goes : n ≡ 0 → r.idle ≡ false → call_fallocate a t who h mode from len ≡ ending (mode_steps mode (start a t) r.row from len)
  pub supplied : n ≡ 0 → r.idle ≡ false → Supplied a t r.row r.head mode from len places source
