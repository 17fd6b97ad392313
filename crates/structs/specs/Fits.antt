-- Values that the fields' types hold: what a structure of the code always is, and what bytes are read as.
use Rattle.std.specs.Prelude.{◌≡◌, ◌^◌, ◌<◌, length}
use Rattle.std.specs.Int.{w64}
use Rattle.std.proofs.Common.{SFits}
use Rattle.le.specs.Le.{Bytes}
use Rattle.structs.specs.declared.SuperBlock.{SuperBlock}
use Rattle.structs.specs.declared.Timespec.{Timespec}
use Rattle.structs.specs.declared.DiskINode.{DiskINode}
use Rattle.structs.specs.declared.DiskEntry.{DiskEntry}

pub record SuperFits (b : SuperBlock) : Type 0 where
  pub magic : b.magic < 2 ^ 32
  pub blocks : b.blocks < 2 ^ 32
  pub unused : b.unused < 2 ^ 32
  pub groups : b.groups < 2 ^ 32

pub record TimeFits (t : Timespec) : Type 0 where
  pub sec : SFits w64 t.sec
  pub nsec : SFits w64 t.nsec

pub record RecordFits (r : DiskINode) : Type 0 where
  pub size : r.size < 2 ^ 64
  pub kind : r.kind < 2 ^ 32
  pub mode : r.mode < 2 ^ 16
  pub nlinks : r.nlinks < 2 ^ 16
  pub blocks : r.blocks < 2 ^ 32
  pub uid : r.uid < 2 ^ 32
  pub gid : r.gid < 2 ^ 32
  pub pad : r.pad < 2 ^ 32
  pub atime : TimeFits r.atime
  pub mtime : TimeFits r.mtime
  pub ctime : TimeFits r.ctime
  pub file : length r.file ≡ 16
  pub mac : length r.mac ≡ 16
  pub file_bytes : Bytes r.file
  pub mac_bytes : Bytes r.mac

pub record EntryFits (e : DiskEntry) : Type 0 where
  pub id : e.id < 2 ^ 32
  pub kind : e.kind < 2 ^ 32
  pub name : length e.name ≡ 256
  pub name_bytes : Bytes e.name
