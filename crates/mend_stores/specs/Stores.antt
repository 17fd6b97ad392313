-- What the mender's stores are given and what they leave: a is the arena as it came, c once the files are gone, d as it is; m is the memory.
use Rattle.std.specs.Prelude.{◌≡◌, true, List, ℕ, ◌+◌, ◌*◌, ◌≤◌, ◌<◌}
use Rattle.base.specs.Out.{done, bind}
use Rattle.base.specs.Search.{pick}
use Rattle.structs.specs.Types.{is_folder}
use Rattle.structs.specs.declared.DiskINode.{DiskINode}
use Rattle.maps.specs.Maps.{with_bit}
use Rattle.table.specs.declared.Table.{Table}
use Rattle.arena.specs.Blocks.{blocks}
use Rattle.arena.specs.Fields.{File}
use Rattle.arena.specs.Places.{free_of, free_count}
use Rattle.files.specs.Read.{there, length_of, present}
use Rattle.files.specs.Store.{put_file}
use Rattle.files_laws.specs.Laws.{touches, lacking}
use Rattle.sefs.specs.State.{Fs, Meta}
use Rattle.sefs.specs.Meta.{meta_file, map_at, super_with}
use Rattle.sefs.specs.Nodes.{node_file}
use Rattle.sefs.specs.Records.{with_links, with_size}
use Rattle.sefs.specs.Ask.{start}
use Rattle.rules.specs.Image.{ids_in, is_node}
use Rattle.chains.specs.Led.{head_at, block_at}
use Rattle.mem.specs.Mem.{super_in, maps_in, meta_in}
use Rattle.fsck_read.specs.Loaded.{Loaded}
use Rattle.mending.specs.Mendable.{rec_in, mendable}
use Rattle.mending.specs.Mend.{lost, stays, free_to, store_to}
use Rattle.mending.specs.Room.{wanted, given_back}
use Rattle.mend_plan.specs.Plan.{Placed, Fated}

-- arena d and table t, with superblock and maps as the memory m has them
abbrev pub state_of : List ℕ → Table → List ℕ → Fs
state_of d t m = record { arena = d; table = t; meta = meta_in m }

-- ---- n bytes into the metadata file from pos on

-- they can be stored, below its length. No block below `from` is free
pub record Storable (d places : List ℕ) (pos n from : ℕ) : Type 0 where
  pub most : blocks d ≤ 4096
  pub exists : there d meta_file ≡ true
  pub long : length_of d meta_file ≤ 524288
  pub below : pos + n ≤ length_of d meta_file
  pub room : lacking d meta_file pos n ≤ free_count d
  pub placed : Placed d places
  pub used : from ≤ free_of d

-- src was stored: the arena was d, and is e. Every head is where it was
pub record PutInMeta (d e places : List ℕ) (pos : ℕ) (src : List ℕ) (from : ℕ) : Type 0 where
  pub put : put_file d meta_file pos src ≡ done e
  pub heads : (g : File) → head_at e g ≡ head_at d g
  pub placed : Placed e places
  pub used : from ≤ free_of e

-- ---- files go first

-- superblock and maps once id is free
abbrev pub freed_in : List ℕ → ℕ → Meta
freed_in m id = record {
  super = super_with (super_in m) (super_in m).blocks ((super_in m).unused + 1) (super_in m).groups;
  maps = with_bit (maps_in m) id true;
}

-- of the first n ids those that go are gone. The other files' heads and the metadata file's blocks are where they were
pub record FreedTo (a d m : List ℕ) (n : ℕ) : Type 0 where
  pub steps : (t : Table) → free_to a (start a t) n ≡ done (state_of d t m)
  pub loaded : Loaded m
  pub heads : (id : ℕ) → is_node a id ≡ true → (lost a id ≡ true → n ≤ id) → head_at d (node_file (rec_in a id)) ≡ head_at a (node_file (rec_in a id))
  pub blocks : (q : ℕ) → block_at d meta_file q ≡ block_at a meta_file q

-- ---- then changed records

-- a record with other links, and with another size where it is no folder's
unfoldable pub renewed_by : DiskINode → ℕ → ℕ → DiskINode
renewed_by r links len = pick (is_folder r.kind) (with_links r links) (with_size (with_links r links) len)

-- the files are gone, and nothing can refuse the stores
pub record Begun (a m c work places : List ℕ) (n : ℕ) : Type 0 where
  pub can : mendable a ≡ true
  pub room : wanted a ≤ free_count a + given_back a
  pub all : n ≡ ids_in a
  pub fated : Fated a work n
  pub freed : FreedTo a c m n
  pub placed : Placed c places

-- of the first n records those that change are stored. No block below `from` is free
pub record StoredTo (a d m places : List ℕ) (n from : ℕ) : Type 0 where
  pub steps : (t : Table) → bind (free_to a (start a t) (ids_in a)) (λ s. store_to a s n) ≡ done (state_of d t m)
  pub heads : (id : ℕ) → stays a id ≡ true → head_at d (node_file (rec_in a id)) ≡ head_at a (node_file (rec_in a id))
  pub placed : Placed d places
  pub used : from ≤ free_of d

-- ---- then superblock and maps

-- they can be stored: their blocks are there
pub record MetaHasBlocks (d m places : List ℕ) (from : ℕ) : Type 0 where
  pub loaded : Loaded m
  pub most : blocks d ≤ 4096
  pub exists : there d meta_file ≡ true
  pub long : length_of d meta_file ≡ 131072 * (super_in m).groups
  pub super : (q : ℕ) → touches 0 16 q ≡ true → present d meta_file q ≡ true
  pub maps : (g : ℕ) → g < (super_in m).groups → (q : ℕ) → touches (map_at g) 128 q ≡ true → present d meta_file q ≡ true
  pub placed : Placed d places
  pub used : from ≤ free_of d
