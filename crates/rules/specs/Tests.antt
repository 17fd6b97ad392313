-- The rules as tests, and the check: the lowest rule that fails, or 0.
use Rattle.std.specs.Prelude.{Bool, not, ◌&&◌, ◌||◌, List, [], ◌∷◌, ℕ, suc, ◌+◌, ◌*◌, eqb, ltb, leb}
use Rattle.base.specs.Count.{all_to}
use Rattle.base.specs.Decides.{same, first_fail}
use Rattle.base.specs.Search.{pick, lowest}
use Rattle.structs.specs.Constants.{sefs_magic}
use Rattle.structs.specs.Layout.{record_bytes}
use Rattle.structs.specs.Types.{is_folder}
use Rattle.structs.specs.declared.DiskINode.{DiskINode}
use Rattle.structs.specs.declared.DiskEntry.{DiskEntry}
use Rattle.maps.specs.Maps.{bit_at, set_bits}
use Rattle.utf8.specs.Names.{name_of, is_dot, is_dots, is_special, stored_name}
use Rattle.table.specs.declared.Table.{Table}
use Rattle.table.specs.Table.{row_at}
use Rattle.table.specs.Formed.{well_formed}
use Rattle.arena.specs.Blocks.{blk, blocks, legal}
use Rattle.arena.specs.Fields.{tag_of, which_of}
use Rattle.arena.specs.Fields as block
use Rattle.sound.specs.Sound.{sound}
use Rattle.files.specs.Read.{there, length_of}
use Rattle.sefs.specs.Meta.{meta_file}
use Rattle.sefs.specs.Nodes.{node_file}
use Rattle.sefs.specs.Slots.{is_ended}
use Rattle.rules.specs.Image.{stored_super, stored_maps, ids_in, is_node, stored_bytes, rec_of, is_open, is_folder_at, slot_in, later_slot, later_slots, names_in, named, subfolders, parent_of, climb}

unfoldable pub test1 : List ℕ → Bool
test1 a = legal a && sound a

unfoldable pub test2 : Table → Bool
test2 t = well_formed t

unfoldable pub test3 : List ℕ → Bool
test3 a =
    eqb (stored_super a).magic sefs_magic
    && (leb 1 (stored_super a).groups
    && (leb (stored_super a).groups 4
    && (eqb (length_of a meta_file) (131072 * (stored_super a).groups)
    && (eqb (stored_super a).blocks (1024 * (stored_super a).groups) && eqb (stored_super a).unused (set_bits (stored_maps a) (ids_in a))))))

-- ---- 4

-- a row is free, or its id is a node's and it is dirty or equals the stored record
unfoldable pub row_allowed : List ℕ → Table → ℕ → Bool
row_allowed a t i =
    eqb (row_at t i).id 0
    || (is_node a (row_at t i).id && ((row_at t i).dirty || same (record_bytes (row_at t i).rec) (stored_bytes a (row_at t i).id)))

unfoldable pub test4 : List ℕ → Table → Bool
test4 a t =
    not (bit_at (stored_maps a) 0)
    && (not (bit_at (stored_maps a) 2)
    && (all_to (λ g. not (bit_at (stored_maps a) (1024 * g + 1))) (stored_super a).groups && all_to (row_allowed a t) 34))

-- ---- 5

-- node j has the file name
unfoldable pub has_name : List ℕ → Table → List ℕ → ℕ → Bool
has_name a t name j = is_node a j && same (rec_of a t j).file name

-- a node's type, its file, and that no lower node has its file name
unfoldable pub node_allowed : List ℕ → Table → ℕ → Bool
node_allowed a t id =
    not (is_node a id)
    || (leb 1 (rec_of a t id).kind
    && (leb (rec_of a t id).kind 4
    && (there a (node_file (rec_of a t id)) && eqb (lowest (has_name a t (rec_of a t id).file) (ids_in a)) id)))

-- the head of a node file is a node's
unfoldable pub head_allowed : List ℕ → Table → ℕ → Bool
head_allowed a t k =
    not (eqb (tag_of (blk a k)) 1 && eqb (which_of (blk a k)) 1)
    || ltb (lowest (has_name a t (block.name_of (blk a k))) (ids_in a)) (ids_in a)

unfoldable pub test5 : List ℕ → Table → Bool
test5 a t = all_to (node_allowed a t) (ids_in a) && (all_to (head_allowed a t) (blocks a) && is_folder (rec_of a t 2).kind)

-- ---- 6

unfoldable pub dot_allowed : ℕ → DiskEntry → Bool
dot_allowed id e = eqb e.id id && (is_folder e.kind && is_dot (name_of e.name))

unfoldable pub dots_allowed : DiskEntry → Bool
dots_allowed e = is_folder e.kind && is_dots (name_of e.name)

unfoldable pub later_allowed : List ℕ → Table → DiskEntry → Bool
later_allowed a t e =
    is_ended (stored_name e.name)
    && (not (is_special (name_of e.name)) && (is_node a e.id && eqb (rec_of a t e.id).kind e.kind))

-- later slot i has the name of later slot j
unfoldable pub same_name : List ℕ → DiskINode → ℕ → ℕ → Bool
same_name a r j i = same (name_of (later_slot a r i).name) (name_of (later_slot a r j).name)

-- no lower one has it
unfoldable pub is_first : List ℕ → DiskINode → ℕ → Bool
is_first a r j = eqb (lowest (same_name a r j) j) j

unfoldable pub folder_allowed : List ℕ → Table → ℕ → DiskINode → Bool
folder_allowed a t id r =
    leb 2 r.blocks
    && (eqb (length_of a (node_file r)) (264 * r.blocks)
    && (dot_allowed id (slot_in a r 0)
    && (dots_allowed (slot_in a r 1) && all_to (λ j. later_allowed a t (later_slot a r j) && is_first a r j) (later_slots r))))

-- a non-folder
unfoldable pub size_allowed : List ℕ → DiskINode → Bool
size_allowed a r = eqb (length_of a (node_file r)) r.size

-- each folder, and the size of each other node
unfoldable pub folders_allowed : List ℕ → Table → Bool
folders_allowed a t = all_to (λ id. not (is_folder_at a t id) || folder_allowed a t id (rec_of a t id)) (ids_in a)

unfoldable pub sizes_allowed : List ℕ → Table → Bool
sizes_allowed a t = all_to (λ id. not (is_node a id) || (is_folder (rec_of a t id).kind || size_allowed a (rec_of a t id))) (ids_in a)

unfoldable pub test6 : List ℕ → Table → Bool
test6 a t = folders_allowed a t && sizes_allowed a t

-- ---- 7

-- "named once (root never)"
unfoldable pub named_due : List ℕ → Table → ℕ → Bool
named_due a t id = eqb (named a t id) (pick (eqb id 2) 0 1)

-- root apart, ".. unnamed, 2 slots"
unfoldable pub loose : List ℕ → Table → ℕ → DiskINode → Bool
loose a t id r = not (eqb id 2) && (eqb (named a t id) 0 && eqb r.blocks 2)

unfoldable pub removed : List ℕ → Table → ℕ → DiskINode → Bool
removed a t id r = is_open t id && (eqb r.nlinks 0 && loose a t id r)

unfoldable pub linked : List ℕ → Table → ℕ → DiskINode → Bool
linked a t id r = eqb r.nlinks (2 + subfolders a r) && named_due a t id

unfoldable pub links_allowed : List ℕ → Table → ℕ → DiskINode → Bool
links_allowed a t id r =
    pick (is_folder r.kind) (linked a t id r || removed a t id r)
    (eqb r.nlinks (named a t id) && (not (eqb r.nlinks 0) || is_open t id))

unfoldable pub test7 : List ℕ → Table → Bool
test7 a t = all_to (λ id. not (is_node a id) || links_allowed a t id (rec_of a t id)) (ids_in a)

-- ---- 8

-- slot 1 names a folder that names id
unfoldable pub parent_allowed : List ℕ → Table → ℕ → Bool
parent_allowed a t id =
    pick (eqb id 2) (eqb (parent_of a t 2) 2)
    (is_folder_at a t (parent_of a t id) && ltb 0 (names_in a (rec_of a t (parent_of a t id)) id))

-- node 2 is reached in as many steps as there are ids, or fewer
unfoldable pub reaches_root : List ℕ → Table → ℕ → Bool
reaches_root a t id = leb (lowest (λ n. eqb (climb a t id n) 2) (suc (ids_in a))) (ids_in a)

unfoldable pub rooted : List ℕ → Table → ℕ → Bool
rooted a t id = parent_allowed a t id && reaches_root a t id

unfoldable pub tree_allowed : List ℕ → Table → ℕ → Bool
tree_allowed a t id = not (is_folder_at a t id && not (eqb (rec_of a t id).nlinks 0)) || rooted a t id

unfoldable pub test8 : List ℕ → Table → Bool
test8 a t = all_to (tree_allowed a t) (ids_in a)

-- ---- "Check answers pass or the lowest failing number and never refuses."

unfoldable pub checked : List ℕ → Table → ℕ
checked a t =
    first_fail 1 (test1 a ∷ test2 t ∷ test3 a ∷ test4 a t ∷ test5 a t ∷ test6 a t ∷ test7 a t ∷ test8 a t ∷ [])
