-- How often each id is named: what the counts hold on the way, and in the end; and what rule 7 asks of an id.
use Rattle.std.specs.Prelude.{◌≡◌, Bool, not, ◌||◌, List, ℕ, ◌-◌, ◌<◌, eqb, length, get_or}
use Rattle.base.specs.Count.{sum_to, count_to, all_to}
use Rattle.base.specs.Search.{pick}
use Rattle.structs.specs.declared.DiskINode.{DiskINode}
use Rattle.table.specs.declared.Table.{Table}
use Rattle.rules.specs.Image.{ids_in, is_node, rec_of, is_folder_at, later_slot, later_slots, names_in, named}
use Rattle.rules.specs.Tests.{links_allowed, named_due, loose}

-- the lesser of n and the largest count. (None comes so far: no arena has 65,535 slots)
abbrev pub up_to : ℕ → ℕ
up_to n = n - (n - 65535)

-- the counts hold n, as far as they go
pub record Holds (counts : List ℕ) (n : ℕ → ℕ) : Type 0 where
  pub size : length counts ≡ 4096
  pub each : (id : ℕ) → id < 4096 → get_or counts id 0 ≡ up_to (n id)

-- the counts hold how often each id is named
pub record Counted (a : List ℕ) (t : Table) (counts : List ℕ) : Type 0 where
  pub size : length counts ≡ 4096
  pub each : (id : ℕ) → id < 4096 → get_or counts id 0 ≡ named a t id

-- each later slot of a folder names an id that has a count
pub record Below (a : List ℕ) (r : DiskINode) : Type 0 where
  pub later : (j : ℕ) → j < later_slots r → (later_slot a r j).id < 4096

-- how many of the first n later slots name id
unfoldable pub names_to : List ℕ → DiskINode → ℕ → ℕ → ℕ
names_to a r n id = count_to (λ j. eqb (later_slot a r j).id id) n

-- how many later slots of node f name id: none where it is no folder
unfoldable pub names_at : List ℕ → Table → ℕ → ℕ → ℕ
names_at a t f id = pick (is_folder_at a t f) (names_in a (rec_of a t f) id) 0

-- how many later slots of the first n ids' folders name id
unfoldable pub named_to : List ℕ → Table → ℕ → ℕ → ℕ
named_to a t n id = sum_to (λ f. names_at a t f id) n

-- what rule 7 asks of id
abbrev pub links_at : List ℕ → Table → ℕ → Bool
links_at a t id = not (is_node a id) || links_allowed a t id (rec_of a t id)

-- each folder is named once (the root never), or is loose: as rule 7 has it and as order 11 asks it
unfoldable pub names_fine : List ℕ → Table → ℕ → Bool
names_fine a t id = not (is_folder_at a t id) || (named_due a t id || loose a t id (rec_of a t id))

unfoldable pub folders_named : List ℕ → Table → Bool
folders_named a t = all_to (names_fine a t) (ids_in a)
