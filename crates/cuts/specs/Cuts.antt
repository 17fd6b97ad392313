-- Order 12, "What a cut during create leaves": what is there still, when the new name is there, and all that has changed.
use Rattle.std.specs.Prelude.{◌≡◌, true, List, ◌∷◌, [], ◌≢◌, ◌⊎◌, ℕ, ◌+◌, ◌*◌, ◌<◌, ◌≤◌}
use Rattle.base.specs.Count.{bit}
use Rattle.base.specs.Out.{Out, done, refused}
use Rattle.base.specs.Parts.{part, Outside}
use Rattle.base.specs.Reasons.{entry_not_found}
use Rattle.base.specs.Search.{pick}
use Rattle.structs.specs.Constants.{type_dir}
use Rattle.structs.specs.Layout.{super_bytes, record_bytes, entry_bytes}
use Rattle.structs.specs.Types.{is_folder}
use Rattle.table.specs.Table.{empty_table}
use Rattle.arena.specs.Fields.{File}
use Rattle.files.specs.Read.{there, length_of, byte_at}
use Rattle.files_laws.specs.Laws.{Kept}
use Rattle.sefs.specs.Meta.{meta_file, map_at}
use Rattle.sefs.specs.Nodes.{node_file}
use Rattle.sefs.specs.Folders.{entry, dots_entry}
use Rattle.sefs.specs.Slots.{Slot, find_slot}
use Rattle.sefs.specs.Create.{Given}
use Rattle.rules.specs.Image.{run, is_node, stored_bytes, is_folder_at}
use Rattle.rules.specs.Rules.{Rule1}
use Rattle.mending.specs.Mendable.{rec_in}
use Rattle.mending.specs.Promises.{way}
use Rattle.sequences.specs.Pairs.{Pair, pair, Passed}
use Rattle.cuts.specs.Stores.{cut_after}
use Rattle.cuts.specs.Creates.{Birth, new_parent, naming, create_stores, before_file, before_dots, before_slot, before_super, before_map, before_node, before_parent, is_stored, dots_stored}
use Rattle.cuts.specs.Premise.{Creation, OfCuts}

-- ---- "over the stored records": what open reads, with its empty table

-- the lookup of a name in a folder, among the slots that its stored record counts
abbrev pub look_in : List ℕ → ℕ → List ℕ → Out Slot
look_in a f name = find_slot a (rec_in a f) name

-- ---- "every earlier name leads to the same node with its record as before, save the parent's"

-- the lookup of any name in any folder answers what it did: the same slot, and so the same id, or the same refusal. All but of the new name in the parent
unfoldable pub KeepsNames : Type 0
KeepsNames = OfCuts (λ a c n b. (f : ℕ) (name : List ℕ) → is_folder_at a empty_table f ≡ true → (f ≢ c.up) ⊎ (name ≢ c.name) → look_in b f name ≡ look_in a f name)

-- so every list of names that led to a node, each looked up in the folder that those before it led to, leads from root to the same one
unfoldable pub KeepsWays : Type 0
KeepsWays = OfCuts (λ a c n b. (l : List (List ℕ)) (id : ℕ) → way a empty_table 2 l ≡ done id → way b empty_table 2 l ≡ done id)

-- that id is a node's still
unfoldable pub KeepsNodes : Type 0
KeepsNodes = OfCuts (λ a c n b. (id : ℕ) → is_node a id ≡ true → is_node b id ≡ true)

-- "with its record as before", all 112 bytes
unfoldable pub KeepsRecords : Type 0
KeepsRecords = OfCuts (λ a c n b. (id : ℕ) → is_node a id ≡ true → id ≢ c.up → stored_bytes b id ≡ stored_bytes a id)

-- "save the parent's": as it was until its own store, which is the last
pub record Parent (a : List ℕ) (c : Birth) (n : ℕ) (b : List ℕ) : Type 0 where
  pub until : n ≤ before_parent c → stored_bytes b c.up ≡ stored_bytes a c.up
  pub after : before_parent c < n → stored_bytes b c.up ≡ record_bytes (new_parent c)

unfoldable pub KeepsParent : Type 0
KeepsParent = OfCuts Parent

-- ---- "the new name is absent until the parent's record is stored and complete after it"

unfoldable pub Absent : Type 0
Absent = OfCuts (λ a c n b. n ≤ before_parent c → look_in b c.up c.name ≡ refused entry_not_found)

-- "complete": the arena is the finished call's, and passes with the call's table
pub record Finished (g : Given) (b : List ℕ) : Type 0 where
  pub arena : b ≡ g.arena
  pub passes : Passed (pair b g.table)

unfoldable pub Complete : Type 0
Complete = (p : Pair) (c : Birth) (g : Given) → Creation p c g → (n : ℕ) (b : List ℕ) → cut_after n (create_stores c) p.arena ≡ done b
    → before_parent c < n → Finished g b

-- so the name leads to the new node, which has its record and its file
pub record NewThere (c : Birth) (b : List ℕ) : Type 0 where
  pub name : look_in b c.up c.name ≡ done (record { place = c.parent.blocks; entry = naming c })
  pub node : is_node b c.id ≡ true
  pub stored : stored_bytes b c.id ≡ record_bytes c.child
  pub file : there b (node_file c.child) ≡ true

unfoldable pub FindsNew : Type 0
FindsNew = OfCuts (λ a c n b. before_parent c < n → NewThere c b)

-- ---- ".. are the only other traces": all that n stores have changed so far, byte by byte. Each part is as it was until its own store is done

pub record SoFar (a : List ℕ) (c : Birth) (n : ℕ) (b : List ℕ) : Type 0 where
  pub fine : Rule1 b
  -- "a longer .. metadata file": from the first store on, where a group comes
  pub metadata : length_of b meta_file ≡ 131072 * pick (is_stored 0 n) c.after.super.groups c.before.super.groups
  -- "a wrong unused", "a new group whose map still reads as zeros": superblock and maps are stored one by one
  pub super : run b meta_file 0 16 ≡ pick (is_stored (before_super c) n) (super_bytes c.after.super) (run a meta_file 0 16)
  pub maps : (g : ℕ) → g < c.after.super.groups
      → run b meta_file (map_at g) 128 ≡ pick (is_stored (before_map c g) n) (part c.after.maps (128 * g) (128 * g + 128)) (run a meta_file (map_at g) 128)
  -- "Used ids and records without a name"
  pub node : stored_bytes b c.id ≡ pick (is_stored (before_node c) n) (record_bytes c.child) (stored_bytes a c.id)
  pub up : stored_bytes b c.up ≡ pick (is_stored (before_parent c) n) (record_bytes (new_parent c)) (stored_bytes a c.up)
  -- of the metadata file nothing else
  pub rest : (p : ℕ) → Outside p 0 16 → ((g : ℕ) → g < c.after.super.groups → Outside p (map_at g) 128) → Outside p (128 * c.id) 112 → Outside p (128 * c.up) 112
      → byte_at b meta_file p ≡ byte_at a meta_file p
  -- "a stray file": empty, or a folder's with its slots as they are stored
  pub stray : there b (node_file c.child) ≡ is_stored (before_file c) n
  pub stray-long : length_of b (node_file c.child) ≡ 264 * dots_stored c n
  pub stray-dot : is_folder c.child.kind ≡ true → before_dots c < n → run b (node_file c.child) 0 264 ≡ entry_bytes (entry c.id (46 ∷ []) type_dir)
  pub stray-dots : is_folder c.child.kind ≡ true → before_dots c + 1 < n → run b (node_file c.child) 264 264 ≡ entry_bytes (dots_entry c.up)
  -- "a longer folder": the slot is there, behind those that the stored record counts
  pub folder-long : length_of b (node_file c.parent) ≡ 264 * (c.parent.blocks + bit (is_stored (before_slot c) n))
  pub folder-slot : before_slot c < n → run b (node_file c.parent) (264 * c.parent.blocks) 264 ≡ entry_bytes (naming c)

unfoldable pub OnlyTraces : Type 0
OnlyTraces = OfCuts SoFar

-- of the parent's file all that was there is as it was
pub record OldSlots (a : List ℕ) (c : Birth) (b : List ℕ) : Type 0 where
  pub exists : there b (node_file c.parent) ≡ true
  pub bytes : (p : ℕ) → p < 264 * c.parent.blocks → byte_at b (node_file c.parent) p ≡ byte_at a (node_file c.parent) p

-- so it is of each cut
unfoldable pub KeepsFolder : Type 0
KeepsFolder = OfCuts (λ a c n b. OldSlots a c b)

-- and of all other files nothing has changed
unfoldable pub KeepsOthers : Type 0
KeepsOthers = OfCuts (λ a c n b. (f : File) → f ≢ meta_file → f ≢ node_file c.child → f ≢ node_file c.parent → Kept a b f)
