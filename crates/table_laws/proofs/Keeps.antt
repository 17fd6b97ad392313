-- What each step of a call leaves well formed, as the test has it.
use Prim.Native.Nat.{ℕ, ◌<◌}
use mathlib.Core.Path.{◌≡◌, refl}
use mathlib.Core.Bool.{true, false}
use Rattle.base.specs.Count.{sum_to, all_to, count_to}
use Rattle.base.specs.Search.{lowest, found_below}
use Rattle.table.specs.declared.Table.{Table}
use Rattle.table.specs.Zero.{bytes_zero, time_zero, numbers_zero, record_zero}
use Rattle.table.specs.Table.{empty_table, row_of, hold_of, row_used, own_holds, close_hold}
use Rattle.table.specs.Formed.{hold_ok, row_ok, holds_ok, rows_ok, owners_ok, shaped, well_formed}
use Rattle.table_laws.specs.Rules.{WellFormed}
use Rattle.table_laws.proofs.Rules.{well-formed-means, means-well-formed}
use Rattle.table_laws.proofs.Rows.{formed-held}
use Rattle.table_laws.proofs.Holds.{close-kept, close-others}

-- "Format and open take no table and return an empty one"
pub empty-formed : well_formed empty_table ≡ true
unfolding well_formed holds_ok rows_ok owners_ok hold_ok row_ok row_of hold_of row_used own_holds shaped all_to count_to sum_to lowest found_below record_zero bytes_zero time_zero numbers_zero
empty-formed = refl

module _ (t : Table) (e : well_formed t ≡ true) where
  w : WellFormed t
  w = well-formed-means t e

  -- a hold closed that was not the last on its row
  pub close-formed : (n : ℕ) → n < 32 → (close_hold t n).last ≡ false → well_formed (close_hold t n).table ≡ true
  close-formed n l e = means-well-formed _ (formed-held _ _ (close-others t w n l e) (close-kept t w n l))
