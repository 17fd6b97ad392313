-- The states that the examples lead through, block by block: what the calls leave, written down. That they leave it is proved in Steps.
use mathlib.Core.Bool.{true, false}
use mathlib.Core.List.{List, [], ◌∷◌, ◌++◌}
use Prim.Native.Nat.{ℕ, ◌*◌, ◌-◌}
use lib.ListN.{length, replicate, take, drop}
use Rattle.le.specs.Le.{le_bytes}
use Rattle.structs.specs.Constants.{sefs_magic, type_file, type_dir}
use Rattle.structs.specs.Layout.{join, super_bytes, record_bytes, entry_bytes}
use Rattle.structs.specs.declared.DiskINode.{DiskINode}
use Rattle.structs.specs.declared.SuperBlock.{SuperBlock}
use Rattle.table.specs.Zero.{zero_row, zero_hold}
use Rattle.table.specs.declared.Handle.{Handle}
use Rattle.table.specs.declared.Hold.{Hold}
use Rattle.table.specs.declared.Row.{Row}
use Rattle.table.specs.declared.Table.{Table}
use Rattle.arena.specs.Fields.{File, file}
use Rattle.sefs.specs.Meta.{meta_file}
use Rattle.sefs.specs.Records.{new_record, with_links, with_blocks, with_size}
use Rattle.sefs.specs.Folders.{entry}
use Rattle.course_states.specs.Worlds.{World, epoch, uuid, root_file, editor}

-- ---- the parts

-- a head: its file, the file's length, the check
unfoldable pub head_blk : File → ℕ → ℕ → List ℕ
head_blk f len check = 1 ∷ f.which ∷ 0 ∷ 0 ∷ (f.name ++ (le_bytes 4 len ++ (replicate 484 0 ++ le_bytes 4 check)))

-- a data block: its file, its number q there, the file's first bytes, of which it has those from 480 x q on, and the check
unfoldable pub data_blk : File → ℕ → List ℕ → ℕ → List ℕ
data_blk f q l check =
    2 ∷ f.which ∷ 0 ∷ 0 ∷ (f.name ++ (le_bytes 4 q ++ (take 480 (drop (480 * q) l ++ replicate 480 0) ++ (replicate 4 0 ++ le_bytes 4 check))))

-- n free blocks
unfoldable pub free_blks : ℕ → List ℕ
free_blks n = replicate (512 * n) 0

-- the records of the root and of file n
abbrev pub root_rec : ℕ → ℕ → DiskINode
root_rec links slots = with_blocks (with_links (new_record type_dir 493 epoch (uuid 1)) links) slots

abbrev pub file_rec : ℕ → ℕ → DiskINode
file_rec n links = with_links (new_record type_file 420 epoch (uuid n)) links

-- records from id 2 on, each in 128 bytes
unfoldable pub records_of : List DiskINode → List ℕ
records_of [] = []
records_of (r ∷ l) = record_bytes r ++ (replicate 16 0 ++ records_of l)

-- the superblock and the maps in memory, of one group
abbrev pub super_with : ℕ → SuperBlock
super_with unused = record { magic = sefs_magic; blocks = 1024; unused = unused; groups = 1 }

-- the metadata file's first bytes: the superblock, the map, the records
unfoldable pub meta_bytes : SuperBlock → List ℕ → List DiskINode → List ℕ
meta_bytes b map l = super_bytes b ++ (replicate 112 0 ++ (map ++ records_of l))

abbrev pub map_from : ℕ → List ℕ
map_from byte = byte ∷ replicate 127 255

-- a folder's file: `.`, `..` and the other slots
unfoldable pub folder_bytes : ℕ → List ℕ → List ℕ
folder_bytes own l = entry_bytes (entry own (46 ∷ []) type_dir) ++ (entry_bytes (entry 2 (46 ∷ 46 ∷ []) type_dir) ++ l)

abbrev pub slot_file : ℕ → ℕ → List ℕ
slot_file id byte = entry_bytes (entry id (byte ∷ []) type_file)

-- ---- tables: a row for each open node, and a hold of the editor's on each, with stamps from 1

abbrev pub clean : ℕ → DiskINode → Row
clean id r = record { id = id; dirty = false; rec = r }

unfoldable pub rows_of : List Row → List Row
rows_of l = l ++ replicate (34 - length l) zero_row

abbrev pub hold : ℕ → ℕ → Hold
hold row stamp = record { row = row; stamp = stamp; owner = editor }

unfoldable pub holds_of : List Hold → List Hold
holds_of l = l ++ replicate (32 - length l) zero_hold

abbrev pub handle : ℕ → ℕ → Handle
handle n stamp = record { hold = n; stamp = stamp }

-- the root alone
unfoldable pub root_table : Table
root_table = record { rows = rows_of (clean 2 (root_rec 2 2) ∷ []); holds = holds_of (hold 0 1 ∷ []); next = 2 }

-- ---- the fresh image

unfoldable pub fresh_arena : List ℕ
fresh_arena =
    join
    (head_blk meta_file 131072 47
    ∷ head_blk root_file 528 583
    ∷ data_blk root_file 0 (folder_bytes 2 []) 29738
    ∷ data_blk root_file 1 (folder_bytes 2 []) 363
    ∷ data_blk meta_file 0 (meta_bytes (super_with 1021) (map_from 248) (root_rec 2 2 ∷ [])) 7162605
    ∷ free_blks 11
    ∷ [])

-- with the root open
unfoldable pub fresh_world : World
fresh_world = record { arena = fresh_arena; table = root_table; root = handle 0 1 }

-- ---- with `a`, with `a` and `b`, with `a`, `b` and `c`

unfoldable pub a_meta : List ℕ
a_meta = meta_bytes (super_with 1020) (map_from 240) (root_rec 2 3 ∷ file_rec 2 1 ∷ [])

unfoldable pub a_arena : List ℕ
a_arena =
    join
    (head_blk meta_file 131072 47
    ∷ head_blk root_file 792 773
    ∷ data_blk root_file 0 (folder_bytes 2 (slot_file 3 97)) 29738
    ∷ data_blk root_file 1 (folder_bytes 2 (slot_file 3 97)) 8384
    ∷ data_blk meta_file 0 a_meta 7247839
    ∷ head_blk (file 1 (uuid 2)) 0 403
    ∷ data_blk meta_file 1 a_meta 23
    ∷ free_blks 9
    ∷ [])

unfoldable pub a_world : World
a_world = record {
  arena = a_arena;
  table = record {
    rows = rows_of (clean 2 (root_rec 2 3) ∷ clean 3 (file_rec 2 1) ∷ []);
    holds = holds_of (hold 0 1 ∷ hold 1 2 ∷ []);
    next = 3;
  };
  root = handle 0 1;
}

unfoldable pub b_slots : List ℕ
b_slots = folder_bytes 2 (slot_file 3 97 ++ slot_file 4 98)

unfoldable pub b_meta : List ℕ
b_meta = meta_bytes (super_with 1019) (map_from 224) (root_rec 2 4 ∷ file_rec 2 1 ∷ file_rec 3 1 ∷ [])

unfoldable pub b_arena : List ℕ
b_arena =
    join
    (head_blk meta_file 131072 47
    ∷ head_blk root_file 1056 963
    ∷ data_blk root_file 0 b_slots 29738
    ∷ data_blk root_file 1 b_slots 43150
    ∷ data_blk meta_file 0 b_meta 7245655
    ∷ head_blk (file 1 (uuid 2)) 0 403
    ∷ data_blk meta_file 1 b_meta 18481
    ∷ head_blk (file 1 (uuid 3)) 0 603
    ∷ data_blk root_file 2 b_slots 363
    ∷ free_blks 7
    ∷ [])

unfoldable pub b_world : World
b_world = record {
  arena = b_arena;
  table = record {
    rows = rows_of (clean 2 (root_rec 2 4) ∷ clean 3 (file_rec 2 1) ∷ clean 4 (file_rec 3 1) ∷ []);
    holds = holds_of (hold 0 1 ∷ hold 1 2 ∷ hold 2 3 ∷ []);
    next = 4;
  };
  root = handle 0 1;
}

unfoldable pub c_slots : List ℕ
c_slots = folder_bytes 2 (slot_file 3 97 ++ (slot_file 4 98 ++ slot_file 5 99))

unfoldable pub c_meta : List ℕ
c_meta = meta_bytes (super_with 1018) (map_from 192) (root_rec 2 5 ∷ file_rec 2 1 ∷ file_rec 3 1 ∷ file_rec 4 1 ∷ [])

unfoldable pub c_arena : List ℕ
c_arena =
    join
    (head_blk meta_file 131072 47
    ∷ head_blk root_file 1320 1153
    ∷ data_blk root_file 0 c_slots 29738
    ∷ data_blk root_file 1 c_slots 43150
    ∷ data_blk meta_file 0 c_meta 7241023
    ∷ head_blk (file 1 (uuid 2)) 0 403
    ∷ data_blk meta_file 1 c_meta 68819
    ∷ head_blk (file 1 (uuid 3)) 0 603
    ∷ data_blk root_file 2 c_slots 13724
    ∷ head_blk (file 1 (uuid 4)) 0 803
    ∷ free_blks 6
    ∷ [])

unfoldable pub c_world : World
c_world = record {
  arena = c_arena;
  table = record {
    rows = rows_of (clean 2 (root_rec 2 5) ∷ clean 3 (file_rec 2 1) ∷ clean 4 (file_rec 3 1) ∷ clean 5 (file_rec 4 1) ∷ []);
    holds = holds_of (hold 0 1 ∷ hold 1 2 ∷ hold 2 3 ∷ hold 3 4 ∷ []);
    next = 5;
  };
  root = handle 0 1;
}

-- ---- one group with no bit set

unfoldable pub full_arena : List ℕ
full_arena =
    join
    (head_blk meta_file 131072 47
    ∷ head_blk root_file 528 583
    ∷ data_blk root_file 0 (folder_bytes 2 []) 29738
    ∷ data_blk root_file 1 (folder_bytes 2 []) 363
    ∷ data_blk meta_file 0 (meta_bytes (super_with 0) (replicate 128 0) (root_rec 2 2 ∷ [])) 88665
    ∷ free_blks 11
    ∷ [])

unfoldable pub full_world : World
full_world = record { arena = full_arena; table = root_table; root = handle 0 1 }

-- ---- with `a`, and the byte `x` in it, where `cheats` starts: write stores no record, so `a` has a dirty row

unfoldable pub x_arena : List ℕ
x_arena =
    join
    (head_blk meta_file 131072 47
    ∷ head_blk root_file 792 773
    ∷ data_blk root_file 0 (folder_bytes 2 (slot_file 3 97)) 29738
    ∷ data_blk root_file 1 (folder_bytes 2 (slot_file 3 97)) 8384
    ∷ data_blk meta_file 0 a_meta 7247839
    ∷ head_blk (file 1 (uuid 2)) 1 424
    ∷ data_blk meta_file 1 a_meta 23
    ∷ data_blk (file 1 (uuid 2)) 0 (120 ∷ []) 3404
    ∷ free_blks 8
    ∷ [])

unfoldable pub x_world : World
x_world = record {
  arena = x_arena;
  table = record {
    rows = rows_of (clean 2 (root_rec 2 3) ∷ record { id = 3; dirty = true; rec = with_size (file_rec 2 1) 1 } ∷ []);
    holds = holds_of (hold 0 1 ∷ hold 1 2 ∷ []);
    next = 3;
  };
  root = handle 0 1;
}
