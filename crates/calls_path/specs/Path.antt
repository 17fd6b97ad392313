-- The call path, as the code has it: what it asks, what its first pass finds, and what a span writes.
use Rattle.std.specs.Prelude.{◌≡◌, List, [], ◌∷◌, ◌≢◌, ℕ, ◌+◌, ◌*◌, ◌/◌, ◌%◌, ◌<◌, ◌≤◌, eqb, leb, length, get_or, set}
use Rattle.base.specs.Out.{Out, done, refused, ensure, guard, ◌>>=◌}
use Rattle.base.specs.Parts.{paste}
use Rattle.base.specs.Reasons.{stuck, out_full}
use Rattle.base.specs.Search.{pick}
use Rattle.structs.specs.declared.DiskINode.{DiskINode}
use Rattle.sefs.specs.State.{Fs}
use Rattle.sefs.specs.Ask.{not_removed}
use Rattle.sefs.specs.Read.{readable}
use Rattle.walk.specs.Walk.{Spot, spot}
use Rattle.paths.specs.Path.{name_in, most_folders, names_to, slashed, path_of}
use Rattle.paths.specs.Spans.{up_by, last_to}
use Rattle.calls_path.specs.declared.Measured.{Measured}

-- ---- the call, once the handle's row is known

unfoldable pub path_ask : DiskINode → Out Unit
path_ask r = do
  _ ← readable r
  not_removed r

unfoldable pub path_in : Fs → ℕ → DiskINode → ℕ → Out (List ℕ)
path_in s x r room = do
  names ← names_to s most_folders x r
  _ ← ensure (leb (length (path_of names)) room) out_full
  done (path_of names)

abbrev pub root_path : ℕ → Out (List ℕ)
root_path room = guard (leb 1 room) out_full (done (47 ∷ []))

-- ---- the first pass

-- folder number n of the way up is noted, where a span of 32 begins there
unfoldable pub marked : List ℕ → ℕ → ℕ → List ℕ
marked m n id = pick (eqb (n % 32) 0) (set m (n / 32) id) m

-- of the n folders on the way up from x, those of number 32, 64 and so on are noted in m
abbrev pub Marks : Fs → ℕ → DiskINode → List ℕ → ℕ → Type 0
Marks s x r m n = (k : ℕ) → 0 < k → 32 * k < n → (u : DiskINode) × (up_by s (32 * k) x r ≡ done (spot (get_or m k 0) u))

-- the path has so many names, of so many bytes with their slashes, and the marks are there
pub record Counted (s : Fs) (x : ℕ) (r : DiskINode) (m : List ℕ) (folders bytes : ℕ) : Type 0 where
  pub names : List (List ℕ)
  pub climbed : names_to s most_folders x r ≡ done names
  pub long : length names ≡ folders
  pub most : folders ≤ most_folders
  pub size : length (slashed names) ≡ bytes
  pub room : length m ≡ 128
  pub marks : Marks s x r m folders

-- what stands for a measure where none is given
abbrev pub no_measure : Measured
no_measure = record { folders = 0; bytes = 0 }

-- the first pass says what the climb will say: the reason, or 0
pub record Measures (s : Fs) (x : ℕ) (r : DiskINode) (m : List ℕ) (folders bytes reason : ℕ) : Type 0 where
  pub sticks : reason ≢ 0 → names_to s most_folders x r ≡ refused reason
  pub counts : reason ≡ 0 → Counted s x r m folders bytes

-- where no more is climbed: at root all is measured, elsewhere the climb has passed too many folders
pub record MeasuredAt (at folders bytes f b reason : ℕ) : Type 0 where
  pub root : at ≡ 2 → (reason ≡ 0) × (f ≡ folders) × (b ≡ bytes)
  pub other : at ≢ 2 → reason ≡ stuck

-- ---- what is written

-- the names of an outcome, with a slash before each, fit the output from `at` on
pub record NamesFit (o : Out (List (List ℕ))) (at : ℕ) (out : List ℕ) : Type 0 where
  pub names : List (List ℕ)
  pub is : o ≡ done names
  pub fits : at + length (slashed names) ≤ length out

-- and now they are there, and end at `end`: the output was `out` and is `now`
pub record NamesWritten (o : Out (List (List ℕ))) (at : ℕ) (out now : List ℕ) (end : ℕ) : Type 0 where
  pub names : List (List ℕ)
  pub is : o ≡ done names
  pub ends : end ≡ at + length (slashed names)
  pub written : now ≡ paste out at (slashed names)

-- the name of node x in the folder whose record is r, alone
unfoldable pub one_name : List ℕ → DiskINode → ℕ → Out (List (List ℕ))
one_name a r x = do
  name ← name_in a r x
  done (name ∷ [])

-- the span that begins at folder number 32 k of the way up from x; k is 0, or the folder is noted in m
pub record SpanFits (s : Fs) (x : ℕ) (r : DiskINode) (m : List ℕ) (k steps at : ℕ) (out : List ℕ) : Type 0 where
  pub room : length m ≡ 128
  pub below : k < 128
  pub from : Spot
  pub up : up_by s (32 * k) x r ≡ done from
  pub noted : 0 < k → get_or m k 0 ≡ from.id
  pub names : NamesFit (last_to s steps from.id from.rec) at out

pub record SpanWritten (s : Fs) (x : ℕ) (r : DiskINode) (k steps at : ℕ) (out now : List ℕ) (end : ℕ) : Type 0 where
  pub from : Spot
  pub up : up_by s (32 * k) x r ≡ done from
  pub names : NamesWritten (last_to s steps from.id from.rec) at out now end

-- the whole path: all its names fit
pub record PathFits (s : Fs) (x : ℕ) (r : DiskINode) (m : List ℕ) (folders : ℕ) (out : List ℕ) : Type 0 where
  pub bytes : ℕ
  pub counted : Counted s x r m folders bytes
  pub fits : bytes ≤ length out

pub record PathWritten (s : Fs) (x : ℕ) (r : DiskINode) (out now : List ℕ) : Type 0 where
  pub names : List (List ℕ)
  pub is : names_to s most_folders x r ≡ done names
  pub written : now ≡ paste out 0 (slashed names)
