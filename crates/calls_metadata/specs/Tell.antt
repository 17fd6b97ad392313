-- Metadata and set metadata, once arena and table are tested. They read no file.
use Rattle.std.specs.Prelude.{true, ℕ}
use Rattle.base.specs.Out.{Out, done, ◌>>=◌}
use Rattle.structs.specs.declared.DiskINode.{DiskINode}
use Rattle.structs.specs.declared.Timespec.{Timespec}
use Rattle.table.specs.declared.Table.{Table}
use Rattle.table.specs.declared.Handle.{Handle}
use Rattle.table.specs.Table.{row_at, take_row}
use Rattle.sefs.specs.declared.Metadata.{Metadata}
use Rattle.sefs.specs.Ask.{by_handle, known}
use Rattle.sefs.specs.Read.{metadata_of, changed}

-- what the row with that id and that record tells
unfoldable pub told : ℕ → DiskINode → Out Metadata
told id r = do
  _ ← known r
  done (metadata_of id r)

unfoldable pub metadata_in : Table → ℕ → Handle → Out Metadata
metadata_in t w h = do
  i ← by_handle t w h
  told (row_at t i).id (row_at t i).rec

unfoldable pub set_in : Table → ℕ → Handle → ℕ → ℕ → ℕ → Timespec → Timespec → Timespec → Out Table
set_in t w h mode uid gid atime mtime ctime = do
  i ← by_handle t w h
  done (take_row t i (row_at t i).id (changed (row_at t i).rec mode uid gid atime mtime ctime) true)
