-- "The checker's rules", 1 to 8: what an image must be, a statement for each sentence.
use Rattle.std.specs.Prelude.{◌≡◌, ◌≢◌, ◌⊎◌, true, false, List, [], ◌∷◌, ℕ, ◌+◌, ◌*◌, ◌<◌, ◌≤◌, get_or}
use Rattle.structs.specs.Constants.{sefs_magic, type_dir}
use Rattle.structs.specs.Layout.{record_bytes}
use Rattle.structs.specs.declared.DiskEntry.{DiskEntry}
use Rattle.maps.specs.Maps.{bit_at, set_bits}
use Rattle.utf8.specs.Names.{name_of, zero_at, EndedAt}
use Rattle.table.specs.declared.Table.{Table}
use Rattle.table.specs.Table.{row_at}
use Rattle.table.specs.Formed.{well_formed}
use Rattle.arena.specs.Blocks.{blk, blocks, legal}
use Rattle.arena.specs.Fields.{tag_of, which_of}
use Rattle.arena.specs.Fields as block
use Rattle.sound.specs.Sound.{sound}
use Rattle.files.specs.Read.{there, length_of}
use Rattle.sefs.specs.Meta.{meta_file}
use Rattle.sefs.specs.Nodes.{node_file}
use Rattle.rules.specs.Image.{stored_super, stored_maps, ids_in, is_node, stored_bytes, rec_of, is_open, is_folder_at, slot_in, named, subfolders, parent_of, climb}

-- 1. "Arena of legal length and sound."
pub record Rule1 (a : List ℕ) : Type 0 where
  pub length : legal a ≡ true
  pub sound : sound a ≡ true

-- 2. "Table well formed."
pub record Rule2 (t : Table) : Type 0 where
  pub formed : well_formed t ≡ true

-- 3. "Magic; groups 1 to 4; metadata length 131072 x groups; blocks 1024 x groups; unused is the number of set bits." (A missing file
-- has length 0.)
pub record Rule3 (a : List ℕ) : Type 0 where
  pub magic : (stored_super a).magic ≡ sefs_magic
  pub some : 1 ≤ (stored_super a).groups
  pub few : (stored_super a).groups ≤ 4
  pub length : length_of a meta_file ≡ 131072 * (stored_super a).groups
  pub blocks : (stored_super a).blocks ≡ 1024 * (stored_super a).groups
  pub unused : (stored_super a).unused ≡ set_bits (stored_maps a) (ids_in a)

-- 4. "Bits 0, 2 and 1024g+1 are clear .. Row ids are nodes; a clean row equals its stored record."
pub record Rule4 (a : List ℕ) (t : Table) : Type 0 where
  pub zero : bit_at (stored_maps a) 0 ≡ false
  pub two : bit_at (stored_maps a) 2 ≡ false
  pub maps : (g : ℕ) → g < (stored_super a).groups → bit_at (stored_maps a) (1024 * g + 1) ≡ false
  pub node : (i : ℕ) → i < 34 → (row_at t i).id ≢ 0 → is_node a (row_at t i).id ≡ true
  pub clean : (i : ℕ) → i < 34 → (row_at t i).id ≢ 0 → (row_at t i).dirty ≡ false → record_bytes (row_at t i).rec ≡ stored_bytes a (row_at t i).id

-- 5. "Node types 1 to 4, file names distinct, one file each, no other node files. Node 2 is a folder."
pub record Rule5 (a : List ℕ) (t : Table) : Type 0 where
  pub least : (id : ℕ) → is_node a id ≡ true → 1 ≤ (rec_of a t id).kind
  pub most : (id : ℕ) → is_node a id ≡ true → (rec_of a t id).kind ≤ 4
  pub distinct : (i j : ℕ) → is_node a i ≡ true → is_node a j ≡ true → (rec_of a t i).file ≡ (rec_of a t j).file → i ≡ j
  pub own : (id : ℕ) → is_node a id ≡ true → there a (node_file (rec_of a t id)) ≡ true
  pub other : (k : ℕ) → k < blocks a → tag_of (blk a k) ≡ 1 → which_of (blk a k) ≡ 1 → (id : ℕ) × (is_node a id ≡ true) × ((rec_of a t id).file ≡ block.name_of (blk a k))
  pub root : (rec_of a t 2).kind ≡ type_dir

-- "Later slots: UTF-8 names, ended, not empty, not `.` or `..`, .. naming a node of the slot's type."
pub record Later (a : List ℕ) (t : Table) (e : DiskEntry) : Type 0 where
  pub ended : EndedAt e.name (zero_at e.name)
  pub some : name_of e.name ≢ []
  pub no-dot : name_of e.name ≢ 46 ∷ []
  pub no-dots : name_of e.name ≢ 46 ∷ 46 ∷ []
  pub node : is_node a e.id ≡ true
  pub kind : (rec_of a t e.id).kind ≡ e.kind

-- 6. "Folders: blocks at least 2, length 264 x blocks, slot 0 `.` with its own id, slot 1 `..`, both of type 2." Later slots as above,
-- their names distinct
pub record Folder (a : List ℕ) (t : Table) (id : ℕ) : Type 0 where
  pub blocks : 2 ≤ (rec_of a t id).blocks
  pub length : length_of a (node_file (rec_of a t id)) ≡ 264 * (rec_of a t id).blocks
  pub dot : name_of (slot_in a (rec_of a t id) 0).name ≡ 46 ∷ []
  pub own : (slot_in a (rec_of a t id) 0).id ≡ id
  pub dot-kind : (slot_in a (rec_of a t id) 0).kind ≡ type_dir
  pub dots : name_of (slot_in a (rec_of a t id) 1).name ≡ 46 ∷ 46 ∷ []
  pub dots-kind : (slot_in a (rec_of a t id) 1).kind ≡ type_dir
  pub later : (k : ℕ) → 2 ≤ k → k < (rec_of a t id).blocks → Later a t (slot_in a (rec_of a t id) k)
  pub distinct : (j k : ℕ) → 2 ≤ j → j < k → k < (rec_of a t id).blocks → name_of (slot_in a (rec_of a t id) j).name ≢ name_of (slot_in a (rec_of a t id) k).name

-- and order 1: "a non-folder's file length is its size"
pub record Rule6 (a : List ℕ) (t : Table) : Type 0 where
  pub folder : (id : ℕ) → is_folder_at a t id ≡ true → Folder a t id
  pub size : (id : ℕ) → is_node a id ≡ true → is_folder_at a t id ≡ false → length_of a (node_file (rec_of a t id)) ≡ (rec_of a t id).size

-- 7. "A folder has 2 plus its subfolders, and is named once (root never)"
pub record Linked (a : List ℕ) (t : Table) (id : ℕ) : Type 0 where
  pub links : (rec_of a t id).nlinks ≡ 2 + subfolders a (rec_of a t id)
  pub root : id ≡ 2 → named a t id ≡ 0
  pub once : id ≢ 2 → named a t id ≡ 1

-- ".. unnamed, 2 slots"
pub record Loose (a : List ℕ) (t : Table) (id : ℕ) : Type 0 where
  pub unnamed : named a t id ≡ 0
  pub slots : (rec_of a t id).blocks ≡ 2

-- "or, root apart, it is open, links 0, unnamed, 2 slots"
pub record Removed (a : List ℕ) (t : Table) (id : ℕ) : Type 0 where
  pub apart : id ≢ 2
  pub opened : is_open t id ≡ true
  pub links : (rec_of a t id).nlinks ≡ 0
  pub loose : Loose a t id

-- "a non-folder has as many as later slots name it; zero only if open"
pub record Rule7 (a : List ℕ) (t : Table) : Type 0 where
  pub other : (id : ℕ) → is_node a id ≡ true → is_folder_at a t id ≡ false → (rec_of a t id).nlinks ≡ named a t id
  pub unnamed : (id : ℕ) → is_node a id ≡ true → is_folder_at a t id ≡ false → (rec_of a t id).nlinks ≡ 0 → is_open t id ≡ true
  pub folder : (id : ℕ) → is_folder_at a t id ≡ true → Linked a t id ⊎ Removed a t id

-- ".. slot 1 names the folder that names it .., and climbing by slot 1 reaches node 2": of one folder but the root
pub record Rooted (a : List ℕ) (t : Table) (id : ℕ) : Type 0 where
  pub parent : is_folder_at a t (parent_of a t id) ≡ true
  pub names : (k : ℕ) × (2 ≤ k) × (k < (rec_of a t (parent_of a t id)).blocks) × ((slot_in a (rec_of a t (parent_of a t id)) k).id ≡ id)
  pub climbs : (n : ℕ) × (climb a t id n ≡ 2)

-- 8. "For each folder with links, slot 1 names the folder that names it (root itself), and climbing by slot 1 reaches node 2." (From the root no
-- step is to be climbed.)
pub record Rule8 (a : List ℕ) (t : Table) : Type 0 where
  pub root : (rec_of a t 2).nlinks ≢ 0 → parent_of a t 2 ≡ 2
  pub folder : (id : ℕ) → is_folder_at a t id ≡ true → (rec_of a t id).nlinks ≢ 0 → id ≢ 2 → Rooted a t id

-- all eight
pub record Allowed (a : List ℕ) (t : Table) : Type 0 where
  pub rule1 : Rule1 a
  pub rule2 : Rule2 t
  pub rule3 : Rule3 a
  pub rule4 : Rule4 a t
  pub rule5 : Rule5 a t
  pub rule6 : Rule6 a t
  pub rule7 : Rule7 a t
  pub rule8 : Rule8 a t

-- the rules by number; another number says nothing
unfoldable pub RuleAt : ℕ → List ℕ → Table → Type 0
RuleAt r a t = get_or (Unit ∷ Rule1 a ∷ Rule2 t ∷ Rule3 a ∷ Rule4 a t ∷ Rule5 a t ∷ Rule6 a t ∷ Rule7 a t ∷ Rule8 a t ∷ []) r Unit
