-- Where a pass over the folders stands.
use Rattle.std.specs.Prelude.{◌≡◌, true, List, ◌++◌, ℕ, ◌+◌, ◌≤◌, ◌<◌, length}
use Rattle.base.specs.Search.{pick}
use Rattle.structs.specs.Types.{is_folder}
use Rattle.structs.specs.declared.DiskINode.{DiskINode}
use Rattle.table.specs.Table.{empty_table}
use Rattle.rules.specs.Image.{rec_of, is_folder_at, slot_in}
use Rattle.inventory.specs.Inventory.{stored_tree}
use Rattle.inventory.specs.Visits.{Visit}
use Rattle.inventory.specs.Steps.{ToCome}
use Rattle.calls_inventory.specs.declared.places.Place.{Place}

-- p is a place at which `rest` is still to be listed, in a folder whose path is `path`
pub record StandsAt (a : List ℕ) (p : Place) (path : List ℕ) (rest : List Visit) : Type 0 where
  pub ahead : ToCome (stored_tree a) p.folder p.slot path rest
  pub later : 2 ≤ p.slot
  pub folder : is_folder_at a empty_table p.folder ≡ true
  pub long : p.path ≡ length path
  pub rec : p.rec ≡ rec_of a empty_table p.folder

-- there is such a path and such a rest
pub record Somewhere (a : List ℕ) (p : Place) : Type 0 where
  pub path : List ℕ
  pub rest : List Visit
  pub stands : StandsAt a p path rest

-- past a line: into the folder that it names, or on to the next slot
unfoldable pub past_line : Place → ℕ → DiskINode → ℕ → Place
past_line p id node longer =
    pick
    (is_folder node.kind)
    (record { folder = id; slot = 2; path = p.path + longer; rec = node })
    (record { folder = p.folder; slot = p.slot + 1; path = p.path; rec = p.rec })

-- of the later slots of a folder, slot k alone names id
pub record OnlyIn (a : List ℕ) (r : DiskINode) (id k : ℕ) : Type 0 where
  pub later : 2 ≤ k
  pub inside : k < r.blocks
  pub names : (slot_in a r k).id ≡ id
  pub only : (j : ℕ) → 2 ≤ j → j < r.blocks → (slot_in a r j).id ≡ id → j ≡ k

-- up from a folder: the same is still to be listed, in the folder above, whose path is a shorter part of this one's
pub record Up (a : List ℕ) (p : Place) (path : List ℕ) (rest : List Visit) (r : Place) : Type 0 where
  pub short : List ℕ
  pub cut : List ℕ
  pub path-is : path ≡ short ++ cut
  pub shorter : r.path < p.path
  pub stands : StandsAt a r short rest
