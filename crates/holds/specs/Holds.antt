-- What the code's parts are: a table with another next stamp, and the test of a hold that is live.
use Rattle.std.specs.Prelude.{ℕ}
use Rattle.table.specs.declared.Table.{Table}
-- a live hold is well formed: `hold_ok` at a stamp that is not 0
unfoldable pub use Rattle.table.specs.Formed.{live_ok}

abbrev pub with_next : Table → ℕ → Table
with_next t next = record { rows = t.rows; holds = t.holds; next = next }
