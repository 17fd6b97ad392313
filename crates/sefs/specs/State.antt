-- What a call works on: the arena, the open nodes, and the superblock and free maps in memory (000's SEFS).
use Rattle.std.specs.Prelude.{List, ℕ}
use Rattle.base.specs.Out.{Out, done}
use Rattle.structs.specs.declared.SuperBlock.{SuperBlock}
use Rattle.table.specs.declared.Table.{Table}

-- the superblock, and the maps of its groups joined
pub record Meta : Type 0 where
  pub super : SuperBlock
  pub maps : List ℕ

-- superblock and maps are those of the call's start, where they could be read then, as the steps since have changed them
pub record Fs : Type 0 where
  pub arena : List ℕ
  pub table : Table
  pub meta : Out Meta

abbrev pub with_arena : Fs → List ℕ → Fs
with_arena s a = record { arena = a; table = s.table; meta = s.meta }

abbrev pub with_table : Fs → Table → Fs
with_table s t = record { arena = s.arena; table = t; meta = s.meta }

abbrev pub with_meta : Fs → Meta → Fs
with_meta s m = record { arena = s.arena; table = s.table; meta = done m }
