-- What the course examples start from, and what is done in them.
use Rattle.std.specs.Prelude.{List, ℕ, pos, replicate}
use Rattle.base.specs.Out.{Out, done, ◌>>=◌}
use Rattle.structs.specs.Constants.{type_file}
use Rattle.structs.specs.Layout.{super_of, super_bytes}
use Rattle.structs.specs.declared.SuperBlock.{SuperBlock}
use Rattle.structs.specs.declared.Timespec.{Timespec}
use Rattle.table.specs.Table.{empty_table}
use Rattle.table.specs.declared.Handle.{Handle}
use Rattle.table.specs.declared.Table.{Table}
use Rattle.arena.specs.Fields.{File, file}
use Rattle.files.specs.Read.{read_file}
use Rattle.files.specs.Store.{put_file}
use Rattle.sefs.specs.Meta.{meta_file, map_at}
use Rattle.sefs.specs.Open.{call_root}
use Rattle.sefs.specs.Create.{Given, call_format, call_create}

-- 1 January 1970
abbrev pub epoch : Timespec
epoch = record { sec = pos 0; nsec = pos 0 }

-- a file name of 16 equal bytes
abbrev pub uuid : ℕ → List ℕ
uuid n = replicate 16 n

-- the root's folder file
abbrev pub root_file : File
root_file = file 1 (uuid 1)

-- one editor asks in all examples
abbrev pub editor : ℕ
editor = 1

-- an arena, the table and the root's handle
pub record World : Type 0 where
  pub arena : List ℕ
  pub table : Table
  pub root : Handle

-- a fresh image of 16 blocks, 8,192 bytes
unfoldable pub fresh : Out (List ℕ)
fresh = call_format (replicate 8192 0) epoch (uuid 1)

-- the root opened
unfoldable pub opened : List ℕ → Out World
opened a = do
  r ← call_root a empty_table editor
  done (record { arena = a; table = r.table; root = r.handle })

-- the fresh image with the root open
unfoldable pub begun : Out World
begun = do
  a ← fresh
  opened a

-- a node made in the root
unfoldable pub made : World → List ℕ → ℕ → ℕ → Out Given
made w name kind n = call_create w.arena w.table editor w.root name kind 420 epoch (uuid n)

-- a file made in the root, and on from there
unfoldable pub filed : World → List ℕ → ℕ → Out World
filed w name n = do
  g ← made w name type_file n
  done (record { arena = g.arena; table = g.table; root = w.root })

-- the superblock, as stored
unfoldable pub stored : List ℕ → Out SuperBlock
stored a = do
  l ← read_file a meta_file 0 16
  done (super_of l)

-- "One group, no bit set, unused 0": an image with its superblock and its map written over
unfoldable pub full : List ℕ → Out (List ℕ)
full a = do
  b ← stored a
  a ← put_file a meta_file 0 (super_bytes (record { magic = b.magic; blocks = b.blocks; unused = 0; groups = b.groups }))
  put_file a meta_file (map_at 0) (replicate 128 0)
