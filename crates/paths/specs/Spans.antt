-- A path in spans. A climb that calls itself once for each folder would be as deep as the path; so the code measures the path first, without calling
-- itself, and then writes it a span of folders at a time, from root's span down. Here is what one folder and one span have to do with the climb.
use Rattle.std.specs.Prelude.{◌≡◌, List, [], ◌∷◌, ◌++◌, ℕ, zero, suc, length}
use Rattle.base.specs.Out.{Out, done, ◌>>=◌}
use Rattle.structs.specs.declared.DiskINode.{DiskINode}
use Rattle.sefs.specs.State.{Fs}
use Rattle.sefs.specs.Move.{dots_of}
use Rattle.walk.specs.Walk.{Spot, spot}
use Rattle.paths.specs.Path.{name_in, folder_on, names_to}

-- the folder above one whose record is r
unfoldable pub above_of : Fs → DiskINode → Out Spot
above_of s r = do
  y ← dots_of s r
  d ← folder_on s y
  done (spot y d)

-- the folder above one, and how many bytes the name of the lower one has there
pub record Reached : Type 0 where
  pub up : Spot
  pub long : ℕ

abbrev pub reached : Spot → ℕ → Reached
reached u n = record { up = u; long = n }

-- a turn of the first pass, from folder x with record r: each name is looked for before the climb goes on
unfoldable pub step_up : Fs → ℕ → DiskINode → Out Reached
step_up s x r = do
  u ← above_of s r
  name ← name_in s.arena u.rec x
  done (reached u (length name))

-- the folder k steps up from x
unfoldable pub up_by : Fs → ℕ → ℕ → DiskINode → Out Spot
up_by s zero x r = done (spot x r)
up_by s (suc k) x r = do
  y ← dots_of s r
  d ← folder_on s y
  up_by s k y d

-- the names of folder x and of the k - 1 folders above it, in the order of the path
unfoldable pub last_to : Fs → ℕ → ℕ → DiskINode → Out (List (List ℕ))
last_to s zero x r = done []
last_to s (suc k) x r = do
  y ← dots_of s r
  d ← folder_on s y
  names ← last_to s k y d
  name ← name_in s.arena d x
  done (names ++ (name ∷ []))

-- names that end with those of the lowest k folders
pub record Spans (s : Fs) (k n x : ℕ) (r : DiskINode) (names : List (List ℕ)) : Type 0 where
  pub top : Spot
  pub up : up_by s k x r ≡ done top
  pub before : List (List ℕ)
  pub above : names_to s n top.id top.rec ≡ done before
  pub rest : List (List ℕ)
  pub last : last_to s k x r ≡ done rest
  pub all : names ≡ before ++ rest
