-- Superblock and free maps: read at a call's start, changed in memory, stored by `sync_metadata` (000's SEFS).
use Rattle.std.specs.Prelude.{Bool, true, false, not, ◌&&◌, List, [], ◌∷◌, ◌++◌, ℕ, zero, suc, ◌+◌, ◌*◌, ◌-◌, replicate, eqb, ltb}
use Rattle.base.specs.Out.{Out, done, guard, ◌>>=◌}
use Rattle.base.specs.Parts.{part}
use Rattle.base.specs.Reasons.{stuck, no_device_space}
use Rattle.base.specs.Search.{lowest, pick}
use Rattle.structs.specs.Layout.{super_of, super_bytes}
use Rattle.structs.specs.declared.SuperBlock.{SuperBlock}
use Rattle.maps.specs.Maps.{bit_at, with_bit}
use Rattle.arena.specs.Fields.{File, file}
use Rattle.files.specs.Read.{read_file}
use Rattle.files.specs.Store.{put_file, cut_file}
use Rattle.sefs.specs.State.{Fs, Meta, with_arena, with_meta}

-- "Byte 1: 0 metadata file"; "4 to 19 file name (zero for metadata)"
abbrev pub meta_file : File
meta_file = file 0 (replicate 16 0)

-- "Group g owns blocks 1024g to 1024g+1023; its map is block 1024g+1", and a block has 128 bytes
abbrev pub map_at : ℕ → ℕ
map_at g = 128 * (1024 * g + 1)

-- ---- reading

-- the maps of the first n groups
unfoldable pub load_maps : List ℕ → ℕ → Out (List ℕ)
load_maps a zero = done []
load_maps a (suc n) = do
  m ← load_maps a n
  l ← read_file a meta_file (map_at n) 128
  done (m ++ l)

-- Stuck is "a short read, a missing file, .. groups not 1 to 4"
unfoldable pub load_meta : List ℕ → Out Meta
load_meta a = do
  l ← read_file a meta_file 0 16
  guard (ltb 0 (super_of l).groups && ltb (super_of l).groups 5) stuck (do
    m ← load_maps a (super_of l).groups
    done (record { super = super_of l; maps = m }))

-- ---- storing: superblock first, then the maps of all groups in rising order

unfoldable pub store_maps : List ℕ → List ℕ → ℕ → Out (List ℕ)
store_maps a maps zero = done a
store_maps a maps (suc n) = do
  d ← store_maps a maps n
  put_file d meta_file (map_at n) (part maps (128 * n) (128 * n + 128))

unfoldable pub sync_meta : Fs → Out Fs
sync_meta s = do
  m ← s.meta
  a ← put_file s.arena meta_file 0 (super_bytes m.super)
  d ← store_maps a m.maps m.super.groups
  done (with_arena s d)

-- ---- ids

abbrev pub ids : Meta → ℕ
ids m = 1024 * m.super.groups

-- "An id is the lowest set bit of the lowest group that has one."
unfoldable pub first_bit : Meta → ℕ
first_bit m = lowest (bit_at m.maps) (ids m)

-- an id that a node may have: not 0, below the maps' end, and its bit clear
unfoldable pub is_used : Meta → ℕ → Bool
is_used m id = not (eqb id 0) && (ltb id (ids m) && not (bit_at m.maps id))

abbrev pub super_with : SuperBlock → ℕ → ℕ → ℕ → SuperBlock
super_with b blocks unused groups = record { magic = b.magic; blocks = blocks; unused = unused; groups = groups }

-- a new group's map: every bit set but that of its own block
abbrev pub new_map : List ℕ
new_map = 253 ∷ replicate 127 255

-- superblock and maps with one group more: "blocks +1024, unused +1023, map bit clear"
abbrev pub grown : SuperBlock → List ℕ → Meta
grown b maps = record { super = super_with b (b.blocks + 1024) (b.unused + 1023) (b.groups + 1); maps = maps ++ new_map }

-- "Only if none is set does a group come: blocks +1024, unused +1023, map bit clear". 17 at 4 groups; an overflow sticks
unfoldable pub add_group : Fs → Meta → Out Fs
add_group s m =
    guard (ltb m.super.groups 4) no_device_space
    (guard (ltb (m.super.blocks + 1024) 4294967296 && ltb (m.super.unused + 1023) 4294967296) stuck (do
      a ← cut_file s.arena meta_file (131072 * (m.super.groups + 1))
      done (with_meta (with_arena s a) (grown m.super m.maps))))

-- 000's alloc_block: the state, and the id
pub record Allocated : Type 0 where
  pub state : Fs
  pub id : ℕ

-- the lowest set bit is cleared, and unused falls by one; it sticks at 0
unfoldable pub take_bit : Fs → Meta → Out Allocated
take_bit s m =
    guard (ltb 0 m.super.unused) stuck
    (done (record {
      state = with_meta s (record {
        super = super_with m.super m.super.blocks (m.super.unused - 1) m.super.groups;
        maps = with_bit m.maps (first_bit m) false;
      });
      id = first_bit m;
    }))

unfoldable pub alloc_block : Fs → Out Allocated
alloc_block s = do
  m ← s.meta
  s ← pick (ltb (first_bit m) (ids m)) (done s) (add_group s m)
  m ← s.meta
  take_bit s m

-- 000's free_block: the bit is set, and unused rises by one. It sticks where the bit is set or lies beyond the maps, and at 2^32-1
unfoldable pub free_block : Fs → ℕ → Out Fs
free_block s id = do
  m ← s.meta
  guard (is_used m id) stuck (guard (ltb (m.super.unused + 1) 4294967296) stuck
      (done (with_meta s (record {
        super = super_with m.super m.super.blocks (m.super.unused + 1) m.super.groups;
        maps = with_bit m.maps id true;
      }))))
