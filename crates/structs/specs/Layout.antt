-- The layouts of document 01: a structure's bytes, and the structure that bytes are.
use Rattle.std.specs.Prelude.{List, [], ◌∷◌, ◌++◌, ℕ, ◌+◌}
use Rattle.base.specs.Parts.{part}
use Rattle.le.specs.Le.{le_at, le_bytes}
use Rattle.le.specs.Signed.{signed, bits_of}
use Rattle.structs.specs.declared.SuperBlock.{SuperBlock}
use Rattle.structs.specs.declared.Timespec.{Timespec}
use Rattle.structs.specs.declared.DiskINode.{DiskINode}
use Rattle.structs.specs.declared.DiskEntry.{DiskEntry}

-- one after another
unfoldable pub join : List (List ℕ) → List ℕ
join [] = []
join (b ∷ bs) = b ++ join bs

-- ---- "Superblock, 16 bytes, four u32: magic 0x2f8dbe2a, blocks, unused, groups."

unfoldable pub super_of : List ℕ → SuperBlock
super_of l = record { magic = le_at l 0 4; blocks = le_at l 4 4; unused = le_at l 8 4; groups = le_at l 12 4 }

unfoldable pub super_fields : SuperBlock → List (List ℕ)
super_fields b = le_bytes 4 b.magic ∷ le_bytes 4 b.blocks ∷ le_bytes 4 b.unused ∷ le_bytes 4 b.groups ∷ []

unfoldable pub super_bytes : SuperBlock → List ℕ
super_bytes b = join (super_fields b)

-- ---- "In a time, seconds and nanoseconds are signed, so a date before 1970 is negative (two's complement, 64 bits each)."

-- the time in the 16 bytes of l from s on
unfoldable pub time_of : List ℕ → ℕ → Timespec
time_of l s = record { sec = signed (le_at l s 8); nsec = signed (le_at l (s + 8) 8) }

unfoldable pub time_fields : Timespec → List (List ℕ)
time_fields t = le_bytes 8 (bits_of t.sec) ∷ le_bytes 8 (bits_of t.nsec) ∷ []

unfoldable pub time_bytes : Timespec → List ℕ
time_bytes t = join (time_fields t)

-- ---- "Record, 112 bytes at 128 x id: size u64 at 0, type u32 at 8, mode u16 at 12, links u16 at 14, blocks u32 at 16, uid 20, gid 24,
-- pad 28, three times at 32, 48, 64, file name at 80, MAC at 96."

unfoldable pub record_of : List ℕ → DiskINode
record_of l = record {
  size = le_at l 0 8;
  kind = le_at l 8 4;
  mode = le_at l 12 2;
  nlinks = le_at l 14 2;
  blocks = le_at l 16 4;
  uid = le_at l 20 4;
  gid = le_at l 24 4;
  pad = le_at l 28 4;
  atime = time_of l 32;
  mtime = time_of l 48;
  ctime = time_of l 64;
  file = part l 80 96;
  mac = part l 96 112;
}

unfoldable pub record_fields : DiskINode → List (List ℕ)
record_fields r =
    le_bytes 8 r.size
    ∷ le_bytes 4 r.kind
    ∷ le_bytes 2 r.mode
    ∷ le_bytes 2 r.nlinks
    ∷ le_bytes 4 r.blocks
    ∷ le_bytes 4 r.uid
    ∷ le_bytes 4 r.gid
    ∷ le_bytes 4 r.pad
    ∷ time_bytes r.atime
    ∷ time_bytes r.mtime
    ∷ time_bytes r.ctime
    ∷ r.file
    ∷ r.mac
    ∷ []

unfoldable pub record_bytes : DiskINode → List ℕ
record_bytes r = join (record_fields r)

-- ---- "Slot, 264 bytes: id u32, name of 256 bytes ended by a zero, type u32."

unfoldable pub entry_of : List ℕ → DiskEntry
entry_of l = record { id = le_at l 0 4; name = part l 4 260; kind = le_at l 260 4 }

unfoldable pub entry_fields : DiskEntry → List (List ℕ)
entry_fields e = le_bytes 4 e.id ∷ e.name ∷ le_bytes 4 e.kind ∷ []

unfoldable pub entry_bytes : DiskEntry → List ℕ
entry_bytes e = join (entry_fields e)
