-- What write, resize and fallocate ask before their steps, and what a new size changes.
use Rattle.std.specs.Prelude.{◌≡◌, true, List, ℕ, ◌<◌, ◌≤◌}
use Rattle.base.specs.Out.{Out, done, ensure, ◌>>=◌}
use Rattle.base.specs.Reasons.{stuck}
use Rattle.structs.specs.declared.DiskINode.{DiskINode}
use Rattle.table.specs.declared.Table.{Table}
use Rattle.table.specs.declared.Handle.{Handle}
use Rattle.table.specs.Table.{row_at, take_row}
use Rattle.arena.specs.Places.{head_of}
use Rattle.sound.specs.Sound.{sound}
use Rattle.files.specs.Read.{there}
use Rattle.files.specs.Store.{longest, cut_file}
use Rattle.sefs.specs.Records.{with_size}
use Rattle.sefs.specs.Nodes.{node_file}
use Rattle.sefs.specs.Ask.{admit, by_handle}
use Rattle.sefs.specs.Contents.{has_contents, not_too_big}
use Rattle.mem.specs.Mem.{table_in, Whole}
use Rattle.sizes.specs.declared.Sizing.{Sizing}

-- 21 and 22, of a node's record and an end
unfoldable pub ask_record : DiskINode → ℕ → Out Unit
ask_record r end = do
  _ ← has_contents r
  not_too_big end

-- 1, 2, 3, 4, 21, 22, then 19 for a missing file, which is the first that the steps meet; and the handle's row
unfoldable pub ask_end : List ℕ → Table → ℕ → Handle → ℕ → Out ℕ
ask_end a t w h end = do
  _ ← admit a t
  i ← by_handle t w h
  _ ← ask_record (row_at t i).rec end
  _ ← ensure (there a (node_file (row_at t i).rec)) stuck
  done i

-- what stands for a sizing where none is given
abbrev pub no_sizing : Sizing
no_sizing = record { row = 0; head = 0 }

-- then this is known: the row i, and the block k that is the head of its file
pub record Reached (a : List ℕ) (t : Table) (i k end : ℕ) : Type 0 where
  pub row : i < 34
  pub range : end ≤ longest
  pub fine : sound a ≡ true
  pub exists : there a (node_file (row_at t i).rec) ≡ true
  pub head : k ≡ head_of a (node_file (row_at t i).rec)

-- the file's length and the size of row i became len: the arena was a and is b, the memory was m and is n
pub record Sized (a b m n : List ℕ) (i len : ℕ) : Type 0 where
  pub arena : cut_file a (node_file (row_at (table_in m) i).rec) len ≡ done b
  pub table : table_in n ≡ take_row (table_in m) i (row_at (table_in m) i).id (with_size (row_at (table_in m) i).rec len) true
  pub whole : Whole n
