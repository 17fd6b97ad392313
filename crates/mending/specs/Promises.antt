-- What order 11 promises of the mender: "Afterwards the checker passes, every name left leads to the same node as before, and mending again
-- changes nothing." And when it refuses. a is the arena as it came, b as it is afterwards, t the table.
use Rattle.std.specs.Prelude.{◌≡◌, true, false, List, [], ◌∷◌, ℕ, ◌+◌, ◌≤◌, ◌<◌}
use Rattle.base.specs.Count.{count_to}
use Rattle.base.specs.Decides.{Decides}
use Rattle.base.specs.Out.{Out, done, Ok, ◌>>=◌}
use Rattle.base.specs.Reasons.{bad_arena, damaged, bad_table, no_device_space, wrong_fs, in_use}
use Rattle.le.specs.Le.{Bytes}
use Rattle.table.specs.declared.Table.{Table}
use Rattle.table.specs.Table.{empty_table, no_holds}
use Rattle.table.specs.Formed.{well_formed}
use Rattle.arena.specs.Places.{free_count}
use Rattle.files.specs.Read.{there}
use Rattle.files_laws.specs.Laws.{Kept}
use Rattle.sefs.specs.Ask.{folder}
use Rattle.sefs.specs.Meta.{super_with}
use Rattle.sefs.specs.Nodes.{node_file}
use Rattle.sefs.specs.Slots.{find_slot}
use Rattle.rules.specs.Image.{stored_super, ids_in, is_node, rec_of, slot_in}
use Rattle.rules.specs.Tests.{checked}
use Rattle.mending.specs.Mendable.{rec_in, Mendable, mendable}
use Rattle.mending.specs.Mend.{lost, stays, mended, call_mend}
use Rattle.mending.specs.Room.{wanted, given_back}

-- the test decides the statement
unfoldable pub MendableDecides : Type 0
MendableDecides = (a : List ℕ) → Decides (mendable a) (Mendable a)

-- ---- "Refusals: 1, 2, 3; 24 InUse if any hold is live; 18 if those conditions fail; then 17."

pub data MayRefuse : ℕ → Type 0 where
  length : MayRefuse bad_arena
  unsound : MayRefuse damaged
  unformed : MayRefuse bad_table
  held : MayRefuse in_use
  unfit : MayRefuse wrong_fs
  full : MayRefuse no_device_space

-- of any arena and table: so 19 never comes
unfoldable pub MendReasons : Type 0
MendReasons = (a : List ℕ) (t : Table) → Ok (λ b. Unit) MayRefuse (call_mend a t)

-- "then 17": exactly where the changed records lack more blocks than are free once the files are gone. Superblock and maps never lack one
unfoldable pub MendFull : Type 0
MendFull = (a : List ℕ) (t : Table) → well_formed t ≡ true → no_holds t ≡ true → Mendable a
    → Ok (λ b. wanted a ≤ free_count a + given_back a) (λ n. (n ≡ no_device_space) × (free_count a + given_back a < wanted a)) (call_mend a t)

-- ---- "Afterwards the checker passes": with the table as it is, which has no hold

unfoldable pub MendPasses : Type 0
MendPasses = (a b : List ℕ) (t : Table) → Bytes a → call_mend a t ≡ done b → checked b t ≡ 0

-- ---- "every name left leads to the same node as before"

-- the node that names lead to from node id, each looked up in a folder as find looks it up
unfoldable pub way : List ℕ → Table → ℕ → List (List ℕ) → Out ℕ
way a t id [] = done id
way a t id (name ∷ names) = do
  _ ← folder (rec_of a t id)
  s ← find_slot a (rec_of a t id) name
  way a t s.entry.id names

-- a node that stays: its record is the mended one, and its slots and every byte of its file are as they were
pub record Spared (a b : List ℕ) (id : ℕ) : Type 0 where
  pub node : is_node b id ≡ true
  pub rec : rec_in b id ≡ mended a id
  pub slots : (k : ℕ) → slot_in b (rec_in b id) k ≡ slot_in a (rec_in a id) k
  pub file : Kept a b (node_file (rec_in a id))

pub record Gone (a b : List ℕ) (id : ℕ) : Type 0 where
  pub node : is_node b id ≡ false
  pub file : there b (node_file (rec_in a id)) ≡ false

pub record Mended (a b : List ℕ) : Type 0 where
  -- whatever names are followed from root, the same node is met, or none for the same reason
  pub names : (l : List (List ℕ)) → way b empty_table 2 l ≡ way a empty_table 2 l
  pub spared : (id : ℕ) → stays a id ≡ true → Spared a b id
  pub gone : (id : ℕ) → lost a id ≡ true → Gone a b id
  pub no_more : (id : ℕ) → is_node b id ≡ true → stays a id ≡ true
  -- "sets unused"
  pub super : stored_super b ≡ super_with (stored_super a) (stored_super a).blocks ((stored_super a).unused + count_to (lost a) (ids_in a)) (stored_super a).groups

unfoldable pub IsMended : Type 0
IsMended = (a b : List ℕ) (t : Table) → Bytes a → call_mend a t ≡ done b → Mended a b

-- ---- "mending again changes nothing": not a byte, and it isn't refused

unfoldable pub MendAgain : Type 0
MendAgain = (a b : List ℕ) (t : Table) → Bytes a → call_mend a t ≡ done b → call_mend b t ≡ done b

-- nor where there is nothing to mend: the checker passes, and no hold is live
unfoldable pub MendIdle : Type 0
MendIdle = (a : List ℕ) (t : Table) → Bytes a → checked a t ≡ 0 → no_holds t ≡ true → call_mend a t ≡ done a
