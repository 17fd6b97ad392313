-- Parts of the definition of move, as the code's functions have them.
use Rattle.std.specs.Prelude.{◌≡◌, true, List, ℕ, ◌<◌, ◌≤◌, length, eqb}
use Rattle.base.specs.Out.{Out, done, ◌>>=◌}
use Rattle.base.specs.Search.{pick}
use Rattle.structs.specs.declared.DiskINode.{DiskINode}
use Rattle.structs.specs.declared.DiskEntry.{DiskEntry}
use Rattle.arena.specs.Blocks.{legal}
use Rattle.sefs.specs.State.{Fs}
use Rattle.sefs.specs.Nodes.{rec_at, get_node}
use Rattle.sefs.specs.Slots.{lookup, find_slot}
use Rattle.sefs.specs.Ask.{good_name, new_name, not_long, not_special, known, live_folder}
use Rattle.sefs.specs.Create.{After, after}
use Rattle.sefs.specs.Move.{move_onto, move_to}
use Rattle.steps.specs.Ends.{ending}
use Rattle.mem.specs.Mem.{Whole}
use Rattle.move_steps.specs.declared.Gone.TheVariants.{Free}
use Rattle.move_steps.specs.Steps.{move_slot, move_over}

-- ---- the new name exists

-- the replaced and the moved node, opened
pub record Both : Type 0 where
  pub state : Fs
  pub gone : ℕ
  pub moved : ℕ

abbrev pub both : Fs → ℕ → ℕ → Both
both s d c = record { state = s; gone = d; moved = c }

unfoldable pub open_two : Fs → ℕ → ℕ → Out Both
open_two s new was = do
  d ← get_node s new
  c ← get_node d.state was
  done (both c.state d.row c.row)

-- 000 takes the metadata of both
unfoldable pub known_two : DiskINode → DiskINode → Out Unit
known_two moved gone = do
  _ ← known moved
  known gone

-- slot k of the target names node `new`, in row d, and the old name is node `was`, in row c. z is the state at the call's start
unfoldable pub replace_known : Fs → Fs → ℕ → ℕ → List ℕ → List ℕ → ℕ → ℕ → ℕ → ℕ → ℕ → Out After
replace_known z s i j old name k new was d c = do
  _ ← known_two (rec_at s c) (rec_at s d)
  pick (eqb was new) (done (after z)) (move_onto s i j old name c d k)

unfoldable pub replace_node : Fs → ℕ → ℕ → List ℕ → List ℕ → ℕ → ℕ → ℕ → Out After
replace_node s i j old name k new was = do
  b ← open_two s new was
  replace_known s b.state i j old name k new was b.gone b.moved

unfoldable pub replace_named : Fs → ℕ → ℕ → List ℕ → List ℕ → ℕ → ℕ → Out After
replace_named s i j old name k new = do
  f ← find_slot s.arena (rec_at s i) old
  replace_node s i j old name k new f.entry.id

unfoldable pub move_found : Fs → ℕ → ℕ → List ℕ → List ℕ → Out After
move_found s i j old name = do
  f ← lookup s.arena (rec_at s j) name
  move_to s i j old name f

-- ---- what is asked of the records and the names

unfoldable pub good_two : List ℕ → List ℕ → Out Unit
good_two old name = do
  _ ← good_name old
  new_name name

unfoldable pub plain_two : List ℕ → List ℕ → Out Unit
plain_two old name = do
  _ ← not_special old
  not_special name

unfoldable pub short_two : List ℕ → List ℕ → Out Unit
short_two old name = do
  _ ← not_long old
  not_long name

-- 9, 10, then the target's 7, 8
unfoldable pub late_asks : DiskINode → List ℕ → List ℕ → Out Unit
late_asks target old name = do
  _ ← plain_two old name
  _ ← short_two old name
  live_folder target

-- 5, the source's 7, 8, then the others
unfoldable pub move_asks : DiskINode → DiskINode → List ℕ → List ℕ → Out Unit
move_asks source target old name = do
  _ ← good_two old name
  _ ← live_folder source
  late_asks target old name

-- what is asked once the handles are known, and the steps
unfoldable pub move_work : Fs → ℕ → ℕ → List ℕ → List ℕ → Out After
move_work s i j old name = do
  _ ← move_asks (rec_at s i) (rec_at s j) old name
  move_found s i j old name

-- ---- a move that is decided but for its steps

-- by its way: 1, the new name is free and e is the moved slot; else node c goes in the place of node d, and may
unfoldable pub plan_steps : Fs → ℕ → ℕ → ℕ → List ℕ → List ℕ → DiskEntry → ℕ → ℕ → ℕ → Out Fs
plan_steps s way i j old name e k d c = pick (eqb way 1) (move_slot s i j k e Free) (move_over s i j old name c d k)

-- 0: both names are one node's, and nothing changes; z is the state at the call's start
unfoldable pub planned : Fs → Fs → ℕ → ℕ → ℕ → List ℕ → List ℕ → DiskEntry → ℕ → ℕ → ℕ → Out After
planned z s way i j old name e k d c = pick (eqb way 0) (done (after z)) (ending (plan_steps s way i j old name e k d c))

-- what is known of it, with the memory m
pub record Planned (m : List ℕ) (i j d c : ℕ) : Type 0 where
  pub whole : Whole m
  pub source : i < 34
  pub target : j < 34
  pub gone : d < 34
  pub moved : c < 34

-- and once nothing refused: the arena a, the new name, the moved slot
pub record Agreed (a m name slot : List ℕ) (i j d c : ℕ) : Type 0 where
  pub legal : legal a ≡ true
  pub plan : Planned m i j d c
  pub short : length name ≤ 255
  pub long : length slot ≡ 264
