-- "Id 0 or stamp 0 means free; a freed one becomes all zero": what all zero is, as a value and as a test.
use Rattle.std.specs.Prelude.{ℕ, Bool, false, ◌&&◌, List, length, get_or, replicate, eqb, ℤ, pos, negsuc}
use Rattle.base.specs.Count.{all_to}
use Rattle.structs.specs.declared.Timespec.{Timespec}
use Rattle.structs.specs.declared.DiskINode.{DiskINode}
use Rattle.table.specs.declared.Row.{Row}
use Rattle.table.specs.declared.Hold.{Hold}

abbrev pub zero_time : Timespec
zero_time = record { sec = pos 0; nsec = pos 0 }

abbrev pub zero_record : DiskINode
zero_record = record {
  size = 0;
  kind = 0;
  mode = 0;
  nlinks = 0;
  blocks = 0;
  uid = 0;
  gid = 0;
  pad = 0;
  atime = zero_time;
  mtime = zero_time;
  ctime = zero_time;
  file = replicate 16 0;
  mac = replicate 16 0;
}

abbrev pub zero_row : Row
zero_row = record { id = 0; dirty = false; rec = zero_record }

abbrev pub zero_hold : Hold
zero_hold = record { row = 0; stamp = 0; owner = 0 }

abbrev pub is_zero_at : List ℕ → ℕ → Bool
is_zero_at l i = eqb (get_or l i 0) 0

-- sixteen bytes, each zero. (The type has the length; as a part of the test it is there for whoever reads the test.)
unfoldable pub bytes_zero : List ℕ → Bool
bytes_zero l = eqb (length l) 16 && all_to (is_zero_at l) 16

abbrev pub is_zero_z : ℤ → Bool
is_zero_z (pos n) = eqb n 0
is_zero_z (negsuc n) = false

unfoldable pub time_zero : Timespec → Bool
time_zero s = is_zero_z s.sec && is_zero_z s.nsec

unfoldable pub numbers_zero : DiskINode → Bool
numbers_zero r =
    eqb r.size 0 && (eqb r.kind 0 && (eqb r.mode 0 && (eqb r.nlinks 0
    && (eqb r.blocks 0 && (eqb r.uid 0 && (eqb r.gid 0 && eqb r.pad 0))))))

unfoldable pub record_zero : DiskINode → Bool
record_zero r =
    numbers_zero r
    && (time_zero r.atime && (time_zero r.mtime && (time_zero r.ctime
    && (bytes_zero r.file && bytes_zero r.mac))))
