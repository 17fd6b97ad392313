-- "The table is well formed when live holds name rows in use, every used row has a hold, no id has two rows, free rows and holds are
-- all zero, live stamps differ and are below the next, itself at least 1"; order 5 "adds owners 1 to 4 with at most 8 each": as a test of any table.
use Rattle.std.specs.Prelude.{ℕ, suc, Bool, false, not, ◌&&◌, length, ltb, leb, eqb, Option, Some, None}
use Rattle.base.specs.Count.{all_to}
use Rattle.base.specs.Search.{pick}
use Rattle.table.specs.Zero.{record_zero}
use Rattle.table.specs.Table.{row_at, hold_at, row_of, hold_of, row_used, is_owner, own_holds}
use Rattle.table.specs.declared.Table.{Table}

-- a search found i
abbrev pub is_at : Option ℕ → ℕ → Bool
is_at (Some j) i = eqb j i
is_at None i = false

-- a live hold names a row in use, its stamp is below the next, no lower hold has the stamp, and its owner is one
unfoldable pub live_ok : Table → ℕ → Bool
live_ok t i =
    ltb (hold_at t i).row 34
    && (not (eqb (row_at t (hold_at t i).row).id 0)
    && (ltb (hold_at t i).stamp t.next && (is_at (hold_of t (hold_at t i).stamp) i && is_owner (hold_at t i).owner)))

-- a free hold is all zero
unfoldable pub hold_ok : Table → ℕ → Bool
hold_ok t i = pick (eqb (hold_at t i).stamp 0) (eqb (hold_at t i).row 0 && eqb (hold_at t i).owner 0) (live_ok t i)

-- no owner has more than 8
unfoldable pub owners_ok : Table → Bool
owners_ok t = all_to (λ k. leb (own_holds t (suc k)) 8) 4

-- a free row is all zero; no lower row has the id of one in use, and a live hold names it
unfoldable pub row_ok : Table → ℕ → Bool
row_ok t i =
    pick (eqb (row_at t i).id 0) (not (row_at t i).dirty && record_zero (row_at t i).rec)
    (is_at (row_of t (row_at t i).id) i && row_used t i)

unfoldable pub holds_ok : Table → Bool
holds_ok t = all_to (hold_ok t) 32

unfoldable pub rows_ok : Table → Bool
rows_ok t = all_to (row_ok t) 34

-- as many rows and holds as the type has
unfoldable pub shaped : Table → Bool
shaped t = eqb (length t.rows) 34 && eqb (length t.holds) 32

unfoldable pub well_formed : Table → Bool
well_formed t = shaped t && (leb 1 t.next && (holds_ok t && (owners_ok t && rows_ok t)))
