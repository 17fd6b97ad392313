-- A record with another value in one field, and a new record.
use Rattle.std.specs.Prelude.{List, ℕ, replicate}
use Rattle.structs.specs.declared.DiskINode.{DiskINode}
use Rattle.structs.specs.declared.Timespec.{Timespec}

-- "new_inode: time and file name from the caller"
abbrev pub new_record : ℕ → ℕ → Timespec → List ℕ → DiskINode
new_record kind mode time name = record {
  size = 0;
  kind = kind;
  mode = mode;
  nlinks = 0;
  blocks = 0;
  uid = 0;
  gid = 0;
  pad = 0;
  atime = time;
  mtime = time;
  ctime = time;
  file = name;
  mac = replicate 16 0;
}

abbrev pub with_links : DiskINode → ℕ → DiskINode
with_links r n = record {
  size = r.size;
  kind = r.kind;
  mode = r.mode;
  nlinks = n;
  blocks = r.blocks;
  uid = r.uid;
  gid = r.gid;
  pad = r.pad;
  atime = r.atime;
  mtime = r.mtime;
  ctime = r.ctime;
  file = r.file;
  mac = r.mac;
}

abbrev pub with_blocks : DiskINode → ℕ → DiskINode
with_blocks r n = record {
  size = r.size;
  kind = r.kind;
  mode = r.mode;
  nlinks = r.nlinks;
  blocks = n;
  uid = r.uid;
  gid = r.gid;
  pad = r.pad;
  atime = r.atime;
  mtime = r.mtime;
  ctime = r.ctime;
  file = r.file;
  mac = r.mac;
}

abbrev pub with_size : DiskINode → ℕ → DiskINode
with_size r n = record {
  size = n;
  kind = r.kind;
  mode = r.mode;
  nlinks = r.nlinks;
  blocks = r.blocks;
  uid = r.uid;
  gid = r.gid;
  pad = r.pad;
  atime = r.atime;
  mtime = r.mtime;
  ctime = r.ctime;
  file = r.file;
  mac = r.mac;
}
