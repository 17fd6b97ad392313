-- What a call has in memory (000's SEFS), as bytes that it lends to its steps:
--   from 0      the table of open nodes, 4,402 bytes
--   at 4402     1 where superblock and free maps could be read at the call's start, else 0
--   from 4403   the superblock, 16 bytes
--   from 4419   the maps of up to four groups, 128 bytes each, up to 4931
use Rattle.std.specs.Prelude.{◌≡◌, List, ℕ, ◌+◌, ◌*◌, ◌<◌, ◌≤◌, length, get_or, eqb}
use Rattle.base.specs.Out.{Out, done, refused}
use Rattle.base.specs.Parts.{part}
use Rattle.base.specs.Reasons.{stuck}
use Rattle.base.specs.Search.{pick}
use Rattle.structs.specs.Layout.{super_of}
use Rattle.structs.specs.declared.SuperBlock.{SuperBlock}
use Rattle.table.specs.declared.Table.{Table}
use Rattle.table_bytes.specs.Layout.{table_of}
use Rattle.sefs.specs.State.{Meta}

abbrev pub memory_size : ℕ
memory_size = 4931

-- (the table that 4,402 bytes are looks at no byte behind them)
abbrev pub table_in : List ℕ → Table
table_in m = table_of m

unfoldable pub super_in : List ℕ → SuperBlock
super_in m = super_of (part m 4403 4419)

-- the maps of the superblock's groups, joined
unfoldable pub maps_in : List ℕ → List ℕ
maps_in m = part m 4419 (4419 + 128 * (super_in m).groups)

-- superblock and maps; where they could not be read, what needs them sticks
unfoldable pub meta_in : List ℕ → Out Meta
meta_in m = pick (eqb (get_or m 4402 0) 1) (done (record { super = super_in m; maps = maps_in m })) (refused stuck)

-- it has its size, and where superblock and maps could be read there are 1 to 4 groups
pub record Whole (m : List ℕ) : Type 0 where
  pub size : length m ≡ memory_size
  pub some : get_or m 4402 0 ≡ 1 → 0 < (super_in m).groups
  pub few : get_or m 4402 0 ≡ 1 → (super_in m).groups ≤ 4

-- the table was changed to t, and nothing else
pub record Tabled (m n : List ℕ) (t : Table) : Type 0 where
  pub table : table_in n ≡ t
  pub meta : meta_in n ≡ meta_in m
  pub whole : Whole n

-- superblock and maps were changed to x, and nothing else
pub record Mapped (m n : List ℕ) (x : Meta) : Type 0 where
  pub table : table_in n ≡ table_in m
  pub meta : meta_in n ≡ done x
  pub whole : Whole n
