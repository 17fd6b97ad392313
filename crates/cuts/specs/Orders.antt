-- The list of stores is create's: `create_steps` does them, in this order and no others.
use Rattle.std.specs.Prelude.{◌≡◌, true, List, ◌∷◌, [], ℕ, suc, ◌≤◌}
use Rattle.base.specs.Out.{done}
use Rattle.structs.specs.Constants.{type_dir}
use Rattle.structs.specs.Layout.{super_bytes, entry_bytes}
use Rattle.structs.specs.Types.{is_folder}
use Rattle.structs.specs.declared.Timespec.{Timespec}
use Rattle.files.specs.Store.{put_file}
use Rattle.sefs.specs.State.{Fs}
use Rattle.sefs.specs.Records.{with_blocks}
use Rattle.sefs.specs.Meta.{meta_file, Allocated, alloc_block, store_maps, sync_meta}
use Rattle.sefs.specs.Nodes.{Opened, id_at, rec_at, set_rec, new_node, sync_row}
use Rattle.sefs.specs.Folders.{entry, put_slot, dirent_append}
use Rattle.sefs.specs.Ask.{start}
use Rattle.sefs.specs.Create.{Given, birth, named}
use Rattle.sequences.specs.Pairs.{Pair}
use Rattle.cuts.specs.Stores.{Store, after_stores, cut_after}
use Rattle.cuts.specs.Creates.{Birth, group_stores, file_stores, dot_stores, slot_stores, meta_stores, node_stores, parent_stores, create_stores}
use Rattle.cuts.specs.Premise.{NoneDirty, Creation}

-- one by one they leave the arena that the call leaves
unfoldable pub WholeCreate : Type 0
WholeCreate = (p : Pair) (c : Birth) (g : Given) → Creation p c g → after_stores (create_stores c) p.arena ≡ done g.arena

-- the stores lead from one state's arena to another's
abbrev pub StoresLead : List Store → Fs → Fs → Type 0
StoresLead l s x = after_stores l s.arena ≡ done x.arena

-- inside `dirent_init`: after its first slot, `.`, the first of these stores is done
abbrev pub DotFirst : Birth → Fs → ℕ → Type 0
DotFirst c s row =
    (x : Fs) × (put_slot (set_rec s row (with_blocks (rec_at s row) 2)) row 0 (entry_bytes (entry c.id (46 ∷ []) type_dir)) ≡ done x)
    × (cut_after 1 (dot_stores c) s.arena ≡ done x.arena)

-- inside `sync_meta`: the superblock is put, then map by map; after it and k maps, the first 1 + k of these stores are done
abbrev pub MapByMap : Birth → List ℕ → Type 0
MapByMap c a =
    (x : List ℕ) × (put_file a meta_file 0 (super_bytes c.after.super) ≡ done x)
    × ((k : ℕ) → k ≤ c.after.super.groups → cut_after (suc k) (meta_stores c) a ≡ store_maps x c.after.maps k)

-- each step of `create_steps`, one after the other, does its own part of the list, in the list's order; each step's name is that of the state that it leaves
pub record Ordered (c : Birth) (i kind mode : ℕ) (time : Timespec) (uuid : List ℕ) (s : Fs) (g : Given) : Type 0 where
  pub taken : Allocated
  pub made : Opened
  pub born : Fs
  pub appended : Fs
  pub linked : Fs
  pub mapped : Fs
  pub recorded : Fs
  pub ended : Fs
  pub makes : new_node s kind mode time uuid ≡ done made
  -- inside this first step: the id, and then the file
  pub takes : alloc_block s ≡ done taken
  pub takes-by : StoresLead (group_stores c) s taken.state
  pub makes-by : StoresLead (file_stores c) taken.state made.state
  pub bears : birth made.state i made.row kind ≡ done born
  pub bears-by : StoresLead (dot_stores c) made.state born
  pub dot-first : is_folder kind ≡ true → DotFirst c made.state made.row
  pub appends : dirent_append born i (entry (id_at born made.row) c.name kind) ≡ done appended
  pub appends-by : StoresLead (slot_stores c) born appended
  pub links : named appended i made.row kind ≡ done linked
  pub links-by : linked.arena ≡ appended.arena
  pub maps : sync_meta linked ≡ done mapped
  pub maps-by : StoresLead (meta_stores c) linked mapped
  pub map-by-map : MapByMap c linked.arena
  pub records : sync_row mapped made.row ≡ done recorded
  pub records-by : StoresLead (node_stores c) mapped recorded
  pub ends : sync_row recorded i ≡ done ended
  pub ends_by : StoresLead (parent_stores c) recorded ended
  pub leaves : g.arena ≡ ended.arena
  -- no row is dirty afterwards, so that the next create begins as this one did
  pub clean : NoneDirty g.table

unfoldable pub InOrder : Type 0
InOrder = (p : Pair) (c : Birth) (g : Given) (B : Creation p c g) → Ordered c B.i B.kind B.mode B.time B.uuid (start p.arena p.table) g
