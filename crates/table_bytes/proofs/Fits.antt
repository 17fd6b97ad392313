-- The table that bytes are fits its types.
use mathlib.Core.Path.{◌≡◌, sym, ◌∙◌, subst}
use mathlib.Core.List.{List}
use Prim.Native.Nat.{ℕ, ◌+◌, ◌*◌, ◌<◌}
use native.Mathlib.Omega.{arith}
use lib.ListN.{length}
use Rattle.base.specs.Parts.{part}
use Rattle.base.proofs.Lists.{length_part}
use Rattle.base.proofs.Parts.{part-all}
use Rattle.le.specs.Le.{Bytes}
use Rattle.le.proofs.Laws.{le_at-below}
use Rattle.structs.proofs.Layouts.{record_of-fits}
use Rattle.table.specs.Zero.{zero_hold}
use Rattle.table.specs.Table.{off_row}
use Rattle.table_bytes.specs.Layout.{row_from, hold_from, row_at_place, hold_at_place, table_of}
use Rattle.table_bytes.specs.Fits.{RowFits, HoldFits, TableFits}
use Rattle.table_bytes.proofs.Runs.{length-list, get_or-list}

module _ (l : List ℕ) (B : Bytes l) (L : length l ≡ 4402) where
  of_part : (s e : ℕ) → Bytes (part l s e)
  of_part s e = part-all (λ x. x < 256) l (omega arith) B s e

  row_fits : (i : ℕ) → i < 34 → RowFits (row_at_place l i)
  unfolding row_at_place row_from
  row_fits i k =
      let r : List ℕ = part l (117 * i) (117 * i + 117) in
      let n : length r ≡ 117 = length_part l (117 * i) (117 * i + 117) (omega arith) (omega (arith, L)) ∙ omega arith in
      record {
        id = le_at-below r 0 4 (of_part (117 * i) (117 * i + 117));
        rec = record_of-fits (part r 5 117) (part-all (λ x. x < 256) r (omega arith) (of_part (117 * i) (117 * i + 117)) 5 117) (length_part r 5 117 (omega arith) (omega (arith, n)));
      }

  hold-fits : (i : ℕ) → i < 32 → HoldFits (hold_at_place l i)
  unfolding hold_at_place hold_from
  hold-fits i k =
      let b : Bytes (part l (3978 + 13 * i) (3978 + 13 * i + 13)) = of_part (3978 + 13 * i) (3978 + 13 * i + 13) in
      record { row = le_at-below (part l (3978 + 13 * i) (3978 + 13 * i + 13)) 0 4 b; stamp = le_at-below (part l (3978 + 13 * i) (3978 + 13 * i + 13)) 4 8 b; owner = b 12 }

  pub table_fits : TableFits (table_of l)
  unfolding table_of
  table_fits = record {
    rows-34 = length-list (row_at_place l) 34;
    holds-32 = length-list (hold_at_place l) 32;
    rows = λ i k. subst RowFits (sym (get_or-list (row_at_place l) off_row 34 i k)) (row_fits i k);
    holds = λ i k. subst HoldFits (sym (get_or-list (hold_at_place l) zero_hold 32 i k)) (hold-fits i k);
    next = le_at-below l 4394 8 B;
  }
