-- Values that the fields' types hold: what a table of the code always is, and what bytes are read as.
use Rattle.std.specs.Prelude.{◌≡◌, List, ℕ, ◌+◌, ◌*◌, ◌^◌, ◌<◌, ◌≤◌, length, get_or}
use Rattle.structs.specs.Fits.{RecordFits}
use Rattle.table.specs.declared.Row.{Row}
use Rattle.table.specs.declared.Hold.{Hold}
use Rattle.table.specs.declared.Table.{Table}
use Rattle.table.specs.Table.{row_at, hold_at}

pub record RowFits (r : Row) : Type 0 where
  pub id : r.id < 2 ^ 32
  pub rec : RecordFits r.rec

pub record HoldFits (h : Hold) : Type 0 where
  pub row : h.row < 2 ^ 32
  pub stamp : h.stamp < 2 ^ 64
  pub owner : h.owner < 2 ^ 8

pub record TableFits (t : Table) : Type 0 where
  pub rows-34 : length t.rows ≡ 34
  pub holds-32 : length t.holds ≡ 32
  pub rows : (i : ℕ) → i < 34 → RowFits (row_at t i)
  pub holds : (i : ℕ) → i < 32 → HoldFits (hold_at t i)
  pub next : t.next < 2 ^ 64

-- each mark is 0 or 1, as it is written
abbrev pub Marked : List ℕ → Type 0
Marked l = (i : ℕ) → i < 34 → get_or l (117 * i + 4) 0 ≤ 1
