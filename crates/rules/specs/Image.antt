-- What an image is: an arena a, and a table t of open nodes. The words in which the checker's rules are said.
use Rattle.std.specs.Prelude.{Bool, not, ◌&&◌, List, [], ◌++◌, ℕ, zero, suc, ◌+◌, ◌*◌, ◌-◌, ◌%◌, eqb, ltb, Option, Some, None}
use Rattle.base.specs.Count.{sum_to, count_to}
use Rattle.base.specs.Parts.{tab}
use Rattle.base.specs.Search.{pick}
use Rattle.structs.specs.Layout.{super_of, record_of, entry_of}
use Rattle.structs.specs.Types.{is_folder}
use Rattle.structs.specs.declared.SuperBlock.{SuperBlock}
use Rattle.structs.specs.declared.DiskINode.{DiskINode}
use Rattle.structs.specs.declared.DiskEntry.{DiskEntry}
use Rattle.maps.specs.Maps.{bit_at}
use Rattle.table.specs.declared.Table.{Table}
use Rattle.table.specs.Table.{row_at, row_of}
use Rattle.arena.specs.Fields.{File}
use Rattle.files.specs.Read.{byte_at}
use Rattle.sefs.specs.Meta.{meta_file, map_at}
use Rattle.sefs.specs.Nodes.{node_file, no_row}

-- n bytes of a file from pos on
abbrev pub run : List ℕ → File → ℕ → ℕ → List ℕ
run a f pos n = tab (byte_at a f) pos n

-- ---- the metadata file

unfoldable pub stored_super : List ℕ → SuperBlock
stored_super a = super_of (run a meta_file 0 16)

-- the maps of the first n groups, joined
unfoldable pub maps_to : List ℕ → ℕ → List ℕ
maps_to a zero = []
maps_to a (suc n) = maps_to a n ++ run a meta_file (map_at n) 128

unfoldable pub stored_maps : List ℕ → List ℕ
stored_maps a = maps_to a (stored_super a).groups

-- "Group g owns blocks 1024g to 1024g+1023": how many there are
abbrev pub ids_in : List ℕ → ℕ
ids_in a = 1024 * (stored_super a).groups

-- ---- nodes

-- "Bits 0, 2 and 1024g+1 are clear. Every other clear bit, and 2, is a node."
unfoldable pub is_node : List ℕ → ℕ → Bool
is_node a id = ltb id (ids_in a) && (not (eqb id 0) && (not (eqb (id % 1024) 1) && not (bit_at (stored_maps a) id)))

-- "Record, 112 bytes at 128 x id"
unfoldable pub stored_bytes : List ℕ → ℕ → List ℕ
stored_bytes a id = run a meta_file (128 * id) 112

-- "Records are the cached ones where a row exists."
abbrev pub rec_by : List ℕ → Table → ℕ → Option ℕ → DiskINode
rec_by a t id (Some i) = (row_at t i).rec
rec_by a t id None = record_of (stored_bytes a id)

unfoldable pub rec_of : List ℕ → Table → ℕ → DiskINode
rec_of a t id = rec_by a t id (row_of t id)

-- a node is open where it has a row
unfoldable pub is_open : Table → ℕ → Bool
is_open t id = not (no_row (row_of t id))

unfoldable pub is_folder_at : List ℕ → Table → ℕ → Bool
is_folder_at a t id = is_node a id && is_folder (rec_of a t id).kind

-- ---- slots

-- slot k of a folder
unfoldable pub slot_in : List ℕ → DiskINode → ℕ → DiskEntry
slot_in a r k = entry_of (run a (node_file r) (264 * k) 264)

-- slots 2 and on are the later ones: the j-th of them, and how many there are
abbrev pub later_slot : List ℕ → DiskINode → ℕ → DiskEntry
later_slot a r j = slot_in a r (2 + j)

abbrev pub later_slots : DiskINode → ℕ
later_slots r = r.blocks - 2

-- how many later slots of a folder name id
unfoldable pub names_in : List ℕ → DiskINode → ℕ → ℕ
names_in a r id = count_to (λ j. eqb (later_slot a r j).id id) (later_slots r)

-- how many later slots of all folders name id
unfoldable pub named : List ℕ → Table → ℕ → ℕ
named a t id = sum_to (λ f. pick (is_folder_at a t f) (names_in a (rec_of a t f) id) 0) (ids_in a)

-- "subfolders are later slots of type 2"
unfoldable pub subfolders : List ℕ → DiskINode → ℕ
subfolders a r = count_to (λ j. is_folder (later_slot a r j).kind) (later_slots r)

-- what slot 1 names
unfoldable pub parent_of : List ℕ → Table → ℕ → ℕ
parent_of a t id = (slot_in a (rec_of a t id) 1).id

-- n steps up, by slot 1
unfoldable pub climb : List ℕ → Table → ℕ → ℕ → ℕ
climb a t id zero = id
climb a t id (suc n) = parent_of a t (climb a t id n)

-- ---- the counts that a pass reports

unfoldable pub node_count : List ℕ → ℕ
node_count a = count_to (is_node a) (ids_in a)
