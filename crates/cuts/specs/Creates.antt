-- The stores of create, in "000's order".
use Rattle.std.specs.Prelude.{Bool, List, [], ◌∷◌, ◌++◌, ℕ, zero, suc, ◌+◌, ◌*◌, ◌/◌, ltb, length}
use Rattle.base.specs.Count.{bit}
use Rattle.base.specs.Out.{Out, done, ◌>>=◌}
use Rattle.base.specs.Parts.{part}
use Rattle.base.specs.Search.{pick}
use Rattle.structs.specs.Constants.{type_dir}
use Rattle.structs.specs.Types.{is_folder}
use Rattle.structs.specs.declared.DiskINode.{DiskINode}
use Rattle.structs.specs.declared.DiskEntry.{DiskEntry}
use Rattle.structs.specs.declared.Timespec.{Timespec}
use Rattle.table.specs.declared.Table.{Table}
use Rattle.table.specs.Table.{row_at}
use Rattle.sefs.specs.State.{Meta}
use Rattle.sefs.specs.Records.{new_record, with_links, with_blocks}
use Rattle.sefs.specs.Meta.{meta_file, load_meta, alloc_block}
use Rattle.sefs.specs.Nodes.{node_file}
use Rattle.sefs.specs.Folders.{entry, dots_entry}
use Rattle.sefs.specs.Ask.{start}
use Rattle.cuts.specs.Stores.{Store, super, map, node, slot, long, make}

-- what a create is about: the new node's name, its id, and its record as it is stored; the parent's id, and its record as it was; superblock and maps as
-- they were, and with the id taken (in a group more, where one comes)
pub record Birth : Type 0 where
  pub name : List ℕ
  pub id : ℕ
  pub child : DiskINode
  pub up : ℕ
  pub parent : DiskINode
  pub before : Meta
  pub after : Meta

-- a folder is born with 2 slots and 2 links, anything else with none and 1
abbrev pub newborn : ℕ → ℕ → Timespec → List ℕ → DiskINode
newborn kind mode time uuid = with_links (with_blocks (new_record kind mode time uuid) (pick (is_folder kind) 2 0)) (pick (is_folder kind) 2 1)

-- where the parent is open in row i. The id is the one that 000's alloc_block gives
unfoldable pub birth_of : List ℕ → Table → ℕ → List ℕ → ℕ → ℕ → Timespec → List ℕ → Out Birth
birth_of a t i name kind mode time uuid = do
  m ← load_meta a
  n ← alloc_block (start a t)
  o ← n.state.meta
  done (record {
    name = name;
    id = n.id;
    child = newborn kind mode time uuid;
    up = (row_at t i).id;
    parent = (row_at t i).rec;
    before = m;
    after = o;
  })

-- a group comes
abbrev pub grows : Birth → Bool
grows c = ltb c.before.super.groups c.after.super.groups

-- the parent's record as it is stored: a slot more, and a link more for a new folder's `..`
abbrev pub new_parent : Birth → DiskINode
new_parent c = with_links (with_blocks c.parent (c.parent.blocks + 1)) (c.parent.nlinks + pick (is_folder c.child.kind) 1 0)

-- the slot that names the new node
abbrev pub naming : Birth → DiskEntry
naming c = entry c.id c.name c.child.kind

-- ---- 000's create, store by store

-- alloc_block, where no bit is set: the metadata file gets longer
abbrev pub group_stores : Birth → List Store
group_stores c = pick (grows c) (long meta_file (131072 * c.after.super.groups) ∷ []) []

-- _new_inode: the file is made
abbrev pub file_stores : Birth → List Store
file_stores c = make (node_file c.child) ∷ []

-- dirent_init, of a folder: `.`, and then `..`
abbrev pub dot_stores : Birth → List Store
dot_stores c =
    pick (is_folder c.child.kind)
    (slot (node_file c.child) 0 (entry c.id (46 ∷ []) type_dir) ∷ slot (node_file c.child) 1 (dots_entry c.up) ∷ [])
    []

-- dirent_append, in the parent: the slot that names it, behind all others
abbrev pub slot_stores : Birth → List Store
slot_stores c = slot (node_file c.parent) c.parent.blocks (naming c) ∷ []

-- the maps of the first n groups, in rising order
unfoldable pub map_stores : List ℕ → ℕ → List Store
map_stores maps zero = []
map_stores maps (suc n) = map_stores maps n ++ (map n (part maps (128 * n) (128 * n + 128)) ∷ [])

-- SEFS::sync_metadata: the superblock, then the maps of all groups
abbrev pub meta_stores : Birth → List Store
meta_stores c = super c.after.super ∷ map_stores c.after.maps c.after.super.groups

-- sync_all of the new node: its record is there before a name leads to it
abbrev pub node_stores : Birth → List Store
node_stores c = node c.id c.child ∷ []

-- sync_all of the parent
abbrev pub parent_stores : Birth → List Store
parent_stores c = node c.up (new_parent c) ∷ []

-- all of them, in this order
unfoldable pub create_stores : Birth → List Store
create_stores c = group_stores c ++ (file_stores c ++ (dot_stores c ++ (slot_stores c ++ (meta_stores c ++ (node_stores c ++ parent_stores c)))))

-- ---- how many stores come before each

abbrev pub before_file : Birth → ℕ
before_file c = length (group_stores c)

abbrev pub before_dots : Birth → ℕ
before_dots c = before_file c + 1

abbrev pub before_slot : Birth → ℕ
before_slot c = before_dots c + length (dot_stores c)

abbrev pub before_super : Birth → ℕ
before_super c = before_slot c + 1

-- the map of group g
abbrev pub before_map : Birth → ℕ → ℕ
before_map c g = before_super c + 1 + g

abbrev pub before_node : Birth → ℕ
before_node c = before_super c + 1 + c.after.super.groups

-- the parent's record: the last of all
abbrev pub before_parent : Birth → ℕ
before_parent c = before_node c + 1

-- the map with the new node's bit
abbrev pub before_own_map : Birth → ℕ
before_own_map c = before_map c (c.id / 1024)

-- after n stores, the one that k stores come before is done
abbrev pub is_stored : ℕ → ℕ → Bool
is_stored k n = ltb k n

-- how many of a new folder's two slots are
abbrev pub dots_stored : Birth → ℕ → ℕ
dots_stored c n = pick (is_folder c.child.kind) (bit (is_stored (before_dots c) n) + bit (is_stored (before_dots c + 1) n)) 0
