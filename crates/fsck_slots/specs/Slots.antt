-- Rule 6 in the parts that the code decides, a function each. Joined again they are the rule's own definitions.
use Rattle.std.specs.Prelude.{Bool, not, ◌&&◌, ◌||◌, List, ℕ, eqb}
use Rattle.base.specs.Decides.{same}
use Rattle.structs.specs.Types.{is_folder}
use Rattle.structs.specs.declared.DiskINode.{DiskINode}
use Rattle.structs.specs.declared.DiskEntry.{DiskEntry}
use Rattle.utf8.specs.Names.{name_of, is_special, stored_name}
use Rattle.table.specs.declared.Table.{Table}
use Rattle.sefs.specs.Slots.{is_ended}
use Rattle.rules.specs.Image.{is_node, rec_of, is_folder_at, slot_in, later_slot}
use Rattle.rules.specs.Tests.{dot_allowed, dots_allowed, later_allowed, is_first, folder_allowed, size_allowed}

-- a later slot's name by itself
unfoldable pub plain_name : DiskEntry → Bool
plain_name e = is_ended (stored_name e.name) && not (is_special (name_of e.name))

-- what it names
unfoldable pub names_node : List ℕ → Table → DiskEntry → Bool
names_node a t e = is_node a e.id && eqb (rec_of a t e.id).kind e.kind

-- later slot i has the name
unfoldable pub bears : List ℕ → DiskINode → List ℕ → ℕ → Bool
bears a r name i = same (name_of (later_slot a r i).name) name

-- later slot j is as it must be, and no lower one has its name
unfoldable pub slot_allowed : List ℕ → Table → DiskINode → ℕ → Bool
slot_allowed a t r j = later_allowed a t (later_slot a r j) && is_first a r j

-- slots 0 and 1
unfoldable pub start_allowed : List ℕ → DiskINode → ℕ → Bool
start_allowed a r id = dot_allowed id (slot_in a r 0) && dots_allowed (slot_in a r 1)

-- what rule 6 asks of id where it is a folder, and where it is another node
unfoldable pub folder_fine : List ℕ → Table → ℕ → Bool
folder_fine a t id = not (is_folder_at a t id) || folder_allowed a t id (rec_of a t id)

unfoldable pub size_fine : List ℕ → Table → ℕ → Bool
size_fine a t id = not (is_node a id) || (is_folder (rec_of a t id).kind || size_allowed a (rec_of a t id))
