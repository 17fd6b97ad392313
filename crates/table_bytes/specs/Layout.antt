-- A table's bytes: "34 rows, each id u32, dirty u8 (0 clean; any other value reads as dirty, and 1 is written), the record's 112 bytes as
-- document 01 lays them out; then 32 holds, each row u32, stamp u64, owner u8; then the next stamp, u64."
use Rattle.std.specs.Prelude.{not, List, [], ◌∷◌, ℕ, ◌+◌, ◌*◌, get_or, eqb}
use Rattle.base.specs.Count.{bit}
use Rattle.base.specs.Parts.{part}
use Rattle.le.specs.Le.{le_at, le_bytes}
use Rattle.structs.specs.Layout.{join, record_of, record_bytes}
use Rattle.table.specs.declared.Row.{Row}
use Rattle.table.specs.declared.Hold.{Hold}
use Rattle.table.specs.declared.Table.{Table}
use Rattle.table.specs.Table.{row_at, hold_at}
use Rattle.table_bytes.specs.Runs.{run_to, list_to}

-- a row: 4 + 1 + 112 bytes
unfoldable pub row_from : List ℕ → Row
row_from l = record { id = le_at l 0 4; dirty = not (eqb (get_or l 4 0) 0); rec = record_of (part l 5 117) }

unfoldable pub row_fields : Row → List (List ℕ)
row_fields r = le_bytes 4 r.id ∷ (bit r.dirty ∷ []) ∷ record_bytes r.rec ∷ []

unfoldable pub row_bytes : Row → List ℕ
row_bytes r = join (row_fields r)

-- a hold: 4 + 8 + 1 bytes
unfoldable pub hold_from : List ℕ → Hold
hold_from l = record { row = le_at l 0 4; stamp = le_at l 4 8; owner = get_or l 12 0 }

unfoldable pub hold_fields : Hold → List (List ℕ)
hold_fields h = le_bytes 4 h.row ∷ le_bytes 8 h.stamp ∷ (h.owner ∷ []) ∷ []

unfoldable pub hold_bytes : Hold → List ℕ
hold_bytes h = join (hold_fields h)

-- the row and the hold at place i: rows from 0 on, holds from 34 x 117 = 3,978 on
unfoldable pub row_at_place : List ℕ → ℕ → Row
row_at_place l i = row_from (part l (117 * i) (117 * i + 117))

unfoldable pub hold_at_place : List ℕ → ℕ → Hold
hold_at_place l i = hold_from (part l (3978 + 13 * i) (3978 + 13 * i + 13))

-- the table that 4,402 bytes are: the next stamp from 3,978 + 32 x 13 = 4,394 on
unfoldable pub table_of : List ℕ → Table
table_of l = record { rows = list_to (row_at_place l) 34; holds = list_to (hold_at_place l) 32; next = le_at l 4394 8 }

unfoldable pub table_fields : Table → List (List ℕ)
table_fields t = run_to (λ i. row_bytes (row_at t i)) 34 ∷ run_to (λ i. hold_bytes (hold_at t i)) 32 ∷ le_bytes 8 t.next ∷ []

unfoldable pub bytes_of_table : Table → List ℕ
bytes_of_table t = join (table_fields t)
