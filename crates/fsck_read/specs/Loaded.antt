-- What the rules are given beside the arena and its chains: superblock and maps in memory.
use Rattle.std.specs.Prelude.{◌≡◌, Bool, not, ◌&&◌, List, ℕ, ◌+◌, ◌*◌, eqb, leb, length, get_or}
use Rattle.base.specs.Count.{all_to}
use Rattle.base.specs.Parts.{part}
use Rattle.structs.specs.Constants.{sefs_magic}
use Rattle.structs.specs.declared.SuperBlock.{SuperBlock}
use Rattle.maps.specs.Maps.{bit_at}
use Rattle.mem.specs.Mem.{Whole, memory_size}
use Rattle.mem.specs.Mem as memory
use Rattle.rules.specs.Image.{stored_super, maps_to, stored_maps}

-- superblock and maps are in memory
pub record Loaded (m : List ℕ) : Type 0 where
  pub whole : Whole m
  pub read : get_or m 4402 0 ≡ 1

-- they are the arena's
pub record Of (a m : List ℕ) : Type 0 where
  pub super : memory.super_in m ≡ stored_super a
  pub maps : memory.maps_in m ≡ stored_maps a

-- ---- how they come there

-- rule 3 of a superblock and the metadata file's length, but for the count of unused ids
unfoldable pub super_fine : SuperBlock → ℕ → Bool
super_fine b len =
    eqb b.magic sefs_magic
    && (leb 1 b.groups && (leb b.groups 4 && (eqb len (131072 * b.groups) && eqb b.blocks (1024 * b.groups))))

-- the maps of the first n groups were read, and nothing before them changed
pub record Mapped (a m d : List ℕ) (n : ℕ) : Type 0 where
  pub size : length d ≡ memory_size
  pub front : part d 0 4419 ≡ part m 0 4419
  pub maps : part d 4419 (4419 + 128 * n) ≡ maps_to a n

-- the superblock was put, with the mark that it is there, and neither table nor maps changed
pub record Put (m d : List ℕ) (b : SuperBlock) : Type 0 where
  pub loaded : Loaded d
  pub super : memory.super_in d ≡ b
  pub front : part d 0 4402 ≡ part m 0 4402
  pub maps : part d 4419 memory_size ≡ part m 4419 memory_size

-- the bits of the maps' own blocks are clear
unfoldable pub maps_clear : List ℕ → Bool
maps_clear m = all_to (λ g. not (bit_at (memory.maps_in m) (1024 * g + 1))) (memory.super_in m).groups
