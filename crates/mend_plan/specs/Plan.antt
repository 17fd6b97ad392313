-- What the mender finds out before its first store: the fate of each id, where the head of its file is, and where the metadata file's blocks are.
use Rattle.std.specs.Prelude.{◌≡◌, true, false, List, ℕ, ◌+◌, ◌≤◌, ◌<◌, length, get_or}
use Rattle.base.specs.Search.{pick}
use Rattle.chains.specs.Led.{head_at, block_at}
use Rattle.sefs.specs.Meta.{meta_file}
use Rattle.sefs.specs.Nodes.{node_file}
use Rattle.rules.specs.Image.{ids_in, is_node}
use Rattle.mending.specs.Mendable.{rec_in, times_named, mendable}
use Rattle.mending.specs.Mend.{lost, mended, changed}
use Rattle.mending.specs.Room.{wanted, given_back}
use Rattle.arena.specs.Places.{free_count}

-- the fate of an id that goes: more than any link count
abbrev pub gone : ℕ
gone = 65535

-- the links that its record is stored with; 0 where nothing of it is stored: it stays as it is, or is no node
unfoldable pub fate_of : List ℕ → ℕ → ℕ
fate_of a id = pick (lost a id) gone (pick (changed a id) (mended a id).nlinks 0)

-- of the first n ids: fates in the first half, one more than the number of a node file's head in the second. The others still have how often they
-- are named
pub record Fated (a work : List ℕ) (n : ℕ) : Type 0 where
  pub size : length work ≡ 8192
  pub fate : (id : ℕ) → id < n → get_or work id 0 ≡ fate_of a id
  pub head : (id : ℕ) → id < n → is_node a id ≡ true → get_or work (4096 + id) 0 ≡ head_at a (node_file (rec_in a id))
  pub named : (id : ℕ) → n ≤ id → id < 4096 → get_or work id 0 ≡ times_named a id

-- a metadata file of four groups has 1,093 blocks
abbrev pub meta_blocks : ℕ
meta_blocks = 1093

-- the places have where each block of the metadata file is: one more than its number, or 0
pub record Placed (a places : List ℕ) : Type 0 where
  pub size : length places ≡ meta_blocks
  pub each : (q : ℕ) → q < meta_blocks → get_or places q 0 ≡ block_at a meta_file q

-- all of it
pub record Ready (a work places : List ℕ) : Type 0 where
  pub fated : Fated a work (ids_in a)
  pub placed : Placed a places

-- the code that finds it out answers, by its code r: 0 where nothing refuses the mender any more, 18, or 17
pub data Decided (a : List ℕ) (P : Type 0) : ℕ → Type 0 where
  can : mendable a ≡ true → wanted a ≤ free_count a + given_back a → P → Decided a P 0
  unfit : mendable a ≡ false → Decided a P 18
  full : mendable a ≡ true → free_count a + given_back a < wanted a → Decided a P 17
