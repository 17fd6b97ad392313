-- Rule 8 as the code asks it: of a list that holds, for each id, what slot 1 of that folder names.
use Rattle.std.specs.Prelude.{◌≡◌, Bool, true, not, ◌&&◌, ◌||◌, List, ℕ, zero, suc, ◌+◌, ◌%◌, ◌<◌, eqb, ltb, length, get_or}
use Rattle.base.specs.Count.{all_to}
use Rattle.base.specs.Parts.{tab}
use Rattle.base.specs.Search.{pick, lowest}
use Rattle.structs.specs.Types.{is_folder}
use Rattle.structs.specs.declared.DiskINode.{DiskINode}
use Rattle.table.specs.declared.Table.{Table}
use Rattle.rules.specs.Image.{ids_in, rec_of, is_folder_at, slot_in, later_slots, named}
use Rattle.rules.specs.Tests.{test3, test4, test5, folders_allowed, rooted}
use Rattle.fsck_links.specs.Counts.{folders_named}

-- ids of the maps, for each id of the maps
pub record Ids (parents : List ℕ) : Type 0 where
  pub size : length parents ≡ 4096
  pub each : (i : ℕ) → i < 4096 → get_or parents i 0 < 4096

-- what comes before: rules 3 to 5, a folder's part of rule 6, and how often folders are named
pub record Named (a : List ℕ) (t : Table) : Type 0 where
  pub rule3 : test3 a ≡ true
  pub rule4 : test4 a t ≡ true
  pub rule5 : test5 a t ≡ true
  pub folders : folders_allowed a t ≡ true
  pub names : folders_named a t ≡ true

-- a folder has a place in the tree: it is the root, or is named
unfoldable pub has_place : List ℕ → Table → ℕ → Bool
has_place a t id = eqb id 2 || not (eqb (named a t id) 0)

-- rule 8 of each folder that has a place
unfoldable pub all_rooted : List ℕ → Table → Bool
all_rooted a t = all_to (λ id. not (is_folder_at a t id && has_place a t id) || rooted a t id) (ids_in a)

-- the id in slot 1, or 0 where it is none of the maps'
unfoldable pub up_by : List ℕ → DiskINode → ℕ
up_by a r = pick (ltb (slot_in a r 1).id 4096) (slot_in a r 1).id 0

-- what slot 1 of a folder names; 0 for other ids
unfoldable pub up : List ℕ → Table → ℕ → ℕ
up a t id = pick (is_folder_at a t id) (up_by a (rec_of a t id)) 0

unfoldable pub ups : List ℕ → Table → List ℕ
ups a t = tab (up a t) 0 4096

-- slot k of folder id, where it names a folder, names one whose slot 1 names id
unfoldable pub child_fine : List ℕ → List ℕ → DiskINode → ℕ → ℕ → Bool
child_fine a parents r id k = not (is_folder (slot_in a r k).kind) || eqb (get_or parents ((slot_in a r k).id % 4096) 0) id

unfoldable pub children_fine : List ℕ → List ℕ → DiskINode → ℕ → Bool
children_fine a parents r id = all_to (λ j. child_fine a parents r id (2 + j)) (later_slots r)

-- n steps up, by the list
unfoldable pub climb_by : List ℕ → ℕ → ℕ → ℕ
climb_by parents id zero = id
climb_by parents id (suc n) = get_or parents (climb_by parents id n) 0

-- node 2 is reached in fewer than n steps
unfoldable pub reaches_in : List ℕ → ℕ → ℕ → Bool
reaches_in parents id n = ltb (lowest (λ i. eqb (climb_by parents id i) 2) n) n

unfoldable pub tree_fine : List ℕ → Table → List ℕ → ℕ → Bool
tree_fine a t parents id =
    not (is_folder_at a t id && has_place a t id) || (children_fine a parents (rec_of a t id) id && reaches_in parents id 4097)
