-- The laws of a table's bytes: lengths, and both round trips.
use mathlib.Core.Path.{◌≡◌, refl, sym, ap, ◌∙◌}
use mathlib.Core.Bool.{Bool, true, false, not}
use mathlib.Core.List.{List, [], ◌∷◌, map, append-nil}
use mathlib.Core.Logic.{⊎_elim}
use Prim.Native.Nat.{ℕ, zero, suc, ◌+◌, ◌*◌, ◌<◌, ◌≤◌}
use native.Mathlib.Nat.{zero-add}
use native.Mathlib.Omega.{arith}
use lib.ListN.{length, get_or, take}
use lib.Dec.{eqb}
use borrow.Author.Tests.{eq-eqb, ne_eqb}
use Rattle.base.proofs.Parts.{part-all, part-one, part-part}
use Rattle.base.specs.Count.{bit}
use Rattle.base.specs.Parts.{part}
use Rattle.base.proofs.Lists.{length_part, get_d_part}
use Rattle.base.proofs.Numbers.{lt-or-le}
use Rattle.le.specs.Le.{Bytes, le_at, le_bytes}
use Rattle.le.proofs.Laws.{length-le_bytes}
use Rattle.structs.specs.Layout.{join, record_of, record_bytes}
use Rattle.structs.proofs.Joins.{total, length-join, field_of, bytes-at, bytes-append, bytes-nil}
use Rattle.structs.proofs.Layouts.{length-record_bytes, record_of-record_bytes, record_bytes-record_of, number-back, whole}
use Rattle.table.specs.declared.Row.{Row}
use Rattle.table.specs.declared.Hold.{Hold}
use Rattle.table.specs.declared.Table.{Table}
use Rattle.table.specs.Zero.{zero_hold}
use Rattle.table.specs.Table.{off_row, row_at, hold_at}
use Rattle.table_bytes.specs.Runs.{run_to, list_to}
use Rattle.table_bytes.specs.Layout.{row_from, row_fields, row_bytes, hold_from, hold_fields, hold_bytes, row_at_place, hold_at_place, table_of, table_fields, bytes_of_table}
use Rattle.table_bytes.specs.Fits.{RowFits, HoldFits, TableFits, Marked}
use Rattle.table_bytes.proofs.Runs.{length_run, part-run, run-parts, run-cong, get_or-list, list-is}

-- ---- a row

row-widths : (r : Row) → length r.rec.file ≡ 16 → length r.rec.mac ≡ 16 → map length (row_fields r) ≡ 4 ∷ 1 ∷ 112 ∷ []
unfolding row_fields
row-widths r f m = let n = length-record_bytes r.rec f m in λ x. length-le_bytes 4 r.id x ∷ 1 ∷ n x ∷ []

pub length-row_bytes : (r : Row) → length r.rec.file ≡ 16 → length r.rec.mac ≡ 16 → length (row_bytes r) ≡ 117
unfolding row_bytes
length-row_bytes r f m = length-join (row_fields r) ∙ ap total (row-widths r f m)

-- a mark, written and read
mark-back : (b : Bool) → not (eqb (bit b) 0) ≡ b
mark-back true = refl
mark-back false = refl

-- a mark of 0 or 1, read and written
mark-again : (n : ℕ) → n ≤ 1 → bit (not (eqb n 0)) ≡ n
mark-again n l =
    ⊎_elim
    (λ (z : n < 1). rw (eq-eqb n 0 (omega arith)) (omega arith))
    (λ (g : 1 ≤ n). rw (ne_eqb n 0 (λ e. omega arith)) (omega arith))
    (lt-or-le n 1)

-- what was written is read
pub row_from-row_bytes : (r : Row) → RowFits r → row_from (row_bytes r) ≡ r
unfolding row_from row_bytes row_fields
row_from-row_bytes r F =
    let l : List ℕ = row_bytes r in
    let ws : List ℕ = 4 ∷ 1 ∷ 112 ∷ [] in
    let at : (k : ℕ) → part l (total (take k ws)) (total (take k ws) + get_or ws k 0) ≡ get_or (row_fields r) k [] = field_of (row_fields r) ws (row-widths r F.rec.file F.rec.mac) in
    let m : get_or l 4 0 ≡ bit r.dirty = sym (get_d_part l 4 5 0 (omega arith)) ∙ ap (λ (y : List ℕ). get_or y 0 0) (at 1) in
    let d : not (eqb (get_or l 4 0) 0) ≡ r.dirty = ap (λ (n : ℕ). not (eqb n 0)) m ∙ mark-back r.dirty in
    let q : record_of (part l 5 117) ≡ r.rec = ap record_of (at 2) ∙ record_of-record_bytes r.rec F.rec in
    λ x. record { id = number-back l 0 4 r.id F.id (at 0) x; dirty = d x; rec = q x }

-- what was read is written, where the mark is one that is written
pub row_bytes-row_from : (l : List ℕ) → Bytes l → length l ≡ 117 → get_or l 4 0 ≤ 1 → row_bytes (row_from l) ≡ l
unfolding row_from row_bytes row_fields
row_bytes-row_from l h e k =
    let a = bytes-at l 0 4 h (omega arith) in
    let b : (bit (not (eqb (get_or l 4 0) 0)) ∷ []) ≡ part l 4 5 = ap (λ (n : ℕ). n ∷ []) (mark-again (get_or l 4 0) k) ∙ sym (part-one l 4 (omega arith)) in
    let c : record_bytes (record_of (part l 5 117)) ≡ part l 5 117 = record_bytes-record_of (part l 5 117) (part-all (λ x. x < 256) l (omega arith) h 5 117) (length_part l 5 117 (omega arith) (omega arith)) in
    ap join (λ x. a x ∷ b x ∷ c x ∷ []) ∙ whole l (4 ∷ 1 ∷ 112 ∷ []) e

-- ---- a hold

hold-widths : (h : Hold) → map length (hold_fields h) ≡ 4 ∷ 8 ∷ 1 ∷ []
unfolding hold_fields
hold-widths h = λ x. length-le_bytes 4 h.row x ∷ length-le_bytes 8 h.stamp x ∷ 1 ∷ []

pub length-hold_bytes : (h : Hold) → length (hold_bytes h) ≡ 13
unfolding hold_bytes
length-hold_bytes h = length-join (hold_fields h) ∙ ap total (hold-widths h)

pub hold_from-hold_bytes : (h : Hold) → HoldFits h → hold_from (hold_bytes h) ≡ h
unfolding hold_from hold_bytes hold_fields
hold_from-hold_bytes h F =
    let l : List ℕ = hold_bytes h in
    let ws : List ℕ = 4 ∷ 8 ∷ 1 ∷ [] in
    let at : (k : ℕ) → part l (total (take k ws)) (total (take k ws) + get_or ws k 0) ≡ get_or (hold_fields h) k [] = field_of (hold_fields h) ws (hold-widths h) in
    let o : get_or l 12 0 ≡ h.owner = sym (get_d_part l 12 13 0 (omega arith)) ∙ ap (λ (y : List ℕ). get_or y 0 0) (at 2) in
    λ x. record { row = number-back l 0 4 h.row F.row (at 0) x; stamp = number-back l 4 8 h.stamp F.stamp (at 1) x; owner = o x }

pub hold_bytes-hold_from : (l : List ℕ) → Bytes l → length l ≡ 13 → hold_bytes (hold_from l) ≡ l
unfolding hold_from hold_bytes hold_fields
hold_bytes-hold_from l h e =
    let a = bytes-at l 0 4 h (omega arith) in
    let b = bytes-at l 4 8 h (omega arith) in
    let c : (get_or l 12 0 ∷ []) ≡ part l 12 13 = sym (part-one l 12 (omega arith)) in
    ap join (λ x. a x ∷ b x ∷ c x ∷ []) ∙ whole l (4 ∷ 8 ∷ 1 ∷ []) e

-- ---- the table

run-bytes : (f : ℕ → List ℕ) (n : ℕ) → ((i : ℕ) → i < n → Bytes (f i)) → Bytes (run_to f n)
unfolding run_to
run-bytes f zero h = bytes-nil
run-bytes f (suc n) h = bytes-append (run_to f n) (f n) (run-bytes f n (λ i l. h i (omega arith))) (h n (omega arith))

module _ (t : Table) (wide : (i : ℕ) → i < 34 → length (row_bytes (row_at t i)) ≡ 117) where
  pub table-widths : map length (table_fields t) ≡ 3978 ∷ 416 ∷ 8 ∷ []
  unfolding table_fields
  table-widths =
      let a : length (run_to (λ i. row_bytes (row_at t i)) 34) ≡ 3978 = length_run 117 (λ i. row_bytes (row_at t i)) 34 wide in
      let b : length (run_to (λ i. hold_bytes (hold_at t i)) 32) ≡ 416 = length_run 13 (λ i. hold_bytes (hold_at t i)) 32 (λ i l. length-hold_bytes (hold_at t i)) in
      λ x. a x ∷ b x ∷ length-le_bytes 8 t.next x ∷ []

  pub length-table_bytes : length (bytes_of_table t) ≡ 4402
  unfolding bytes_of_table
  length-table_bytes = length-join (table_fields t) ∙ ap total table-widths

-- a piece of a run that stands from s to e in l
piece :
    (w : ℕ) (f : ℕ → List ℕ) (n : ℕ) (l : List ℕ) (s e i : ℕ) → part l s e ≡ run_to f n → ((j : ℕ) → j < n → length (f j) ≡ w) → i < n → s + (w * i + w) ≤ e → part l (s + w * i) (s + (w * i + w)) ≡ f i
piece w f n l s e i q h k b =
    sym (part-part l s e (w * i) (w * i + w) b)
    ∙ ap (λ (m : List ℕ). part m (w * i) (w * i + w)) (q ∙ sym (append-nil (run_to f n)))
    ∙ part-run w f n [] h i k

module _ (t : Table) (F : TableFits t) where
  wide : (i : ℕ) → i < 34 → length (row_bytes (row_at t i)) ≡ 117
  wide i l = let r = (F.rows i l).rec in length-row_bytes (row_at t i) r.file r.mac

  at : (k : ℕ) → let ws : List ℕ = 3978 ∷ 416 ∷ 8 ∷ [] in part (bytes_of_table t) (total (take k ws)) (total (take k ws) + get_or ws k 0) ≡ get_or (table_fields t) k []
  unfolding bytes_of_table
  at = field_of (table_fields t) (3978 ∷ 416 ∷ 8 ∷ []) (table-widths t wide)

  row_back : (i : ℕ) → i < 34 → row_at t i ≡ row_at_place (bytes_of_table t) i
  unfolding row_at_place table_fields
  row_back i l =
      let p : part (bytes_of_table t) (0 + 117 * i) (0 + (117 * i + 117)) ≡ row_bytes (row_at t i) = piece 117 (λ i. row_bytes (row_at t i)) 34 (bytes_of_table t) 0 3978 i (at 0) wide l (omega arith) in
      let q : part (bytes_of_table t) (117 * i) (117 * i + 117) ≡ row_bytes (row_at t i) = simp zero-add at p in
      sym (ap row_from q ∙ row_from-row_bytes (row_at t i) (F.rows i l))

  hold-back : (i : ℕ) → i < 32 → hold_at t i ≡ hold_at_place (bytes_of_table t) i
  unfolding hold_at_place table_fields
  hold-back i l =
      let p = piece 13 (λ i. hold_bytes (hold_at t i)) 32 (bytes_of_table t) 3978 4394 i (at 1) (λ j k. length-hold_bytes (hold_at t j)) l (omega arith) in
      let e : 3978 + 13 * i + 13 ≡ 3978 + (13 * i + 13) = omega arith in
      sym (ap (λ (m : ℕ). hold_from (part (bytes_of_table t) (3978 + 13 * i) m)) e ∙ ap hold_from p ∙ hold_from-hold_bytes (hold_at t i) (F.holds i l))

  pub length-fits : length (bytes_of_table t) ≡ 4402
  length-fits = length-table_bytes t wide

  -- a table that was written is read
  pub table_of-table_bytes : table_of (bytes_of_table t) ≡ t
  unfolding table_of table_fields
  table_of-table_bytes =
      let a : t.rows ≡ list_to (row_at_place (bytes_of_table t)) 34 = list-is (row_at_place (bytes_of_table t)) off_row t.rows 34 F.rows-34 row_back in
      let b : t.holds ≡ list_to (hold_at_place (bytes_of_table t)) 32 = list-is (hold_at_place (bytes_of_table t)) zero_hold t.holds 32 F.holds-32 hold-back in
      let c : le_at (bytes_of_table t) 4394 8 ≡ t.next = number-back (bytes_of_table t) 4394 8 t.next F.next (at 2) in
      λ x. record { rows = sym a x; holds = sym b x; next = c x }

module _ (l : List ℕ) (bytes : Bytes l) (size : length l ≡ 4402) where
  bytes-part : (s e : ℕ) → Bytes (part l s e)
  bytes-part s e = part-all (λ x. x < 256) l (omega arith) bytes s e

  row-part : (i : ℕ) → i < 34 → length (part l (117 * i) (117 * i + 117)) ≡ 117
  row-part i k = length_part l (117 * i) (117 * i + 117) (omega arith) (omega arith) ∙ omega arith

  hold-part : (i : ℕ) → i < 32 → length (part l (3978 + 13 * i) (3978 + 13 * i + 13)) ≡ 13
  hold-part i k = length_part l (3978 + 13 * i) (3978 + 13 * i + 13) (omega arith) (omega arith) ∙ omega arith

  row_read : (i : ℕ) → i < 34 → row_at (table_of l) i ≡ row_from (part l (117 * i) (117 * i + 117))
  unfolding table_of row_at_place
  row_read i k = get_or-list (row_at_place l) off_row 34 i k

  hold-read : (i : ℕ) → i < 32 → hold_at (table_of l) i ≡ hold_from (part l (3978 + 13 * i) (3978 + 13 * i + 13))
  unfolding table_of hold_at_place
  hold-read i k = get_or-list (hold_at_place l) zero_hold 32 i k

  next-read : le_bytes 8 (table_of l).next ≡ part l 4394 4402
  unfolding table_of
  next-read = bytes-at l 4394 8 bytes (omega arith)

  -- bytes that were read are written, where the marks are 0 or 1
  pub table_bytes-table_of : Marked l → bytes_of_table (table_of l) ≡ l
  unfolding bytes_of_table table_fields
  table_bytes-table_of marked =
      let f : ℕ → List ℕ = λ i. row_bytes (row_at (table_of l) i) in
      let g : ℕ → List ℕ = λ i. hold_bytes (hold_at (table_of l) i) in
      let a : run_to f 34 ≡ part l 0 3978 = run-cong f (λ i. part l (0 + 117 * i) (0 + 117 * i + 117)) 34 rows ∙ run-parts 117 l 0 34 in
      let b : run_to g 32 ≡ part l 3978 4394 = run-cong g (λ i. part l (3978 + 13 * i) (3978 + 13 * i + 13)) 32 holds ∙ run-parts 13 l 3978 32 in
      let c : le_bytes 8 (table_of l).next ≡ part l 4394 4402 = next-read in
      ap join (λ x. a x ∷ b x ∷ c x ∷ []) ∙ whole l (3978 ∷ 416 ∷ 8 ∷ []) size
    where
      rows : (i : ℕ) → i < 34 → row_bytes (row_at (table_of l) i) ≡ part l (0 + 117 * i) (0 + 117 * i + 117)
      rows i k =
          let m : List ℕ = part l (117 * i) (117 * i + 117) in
          let e : get_or m 4 0 ≤ 1 = rw (get_d_part l (117 * i) (117 * i + 117) 4 (omega arith)) (marked i k) in
          ap row_bytes (row_read i k) ∙ row_bytes-row_from m (bytes-part (117 * i) (117 * i + 117)) (row-part i k) e ∙ ap (λ (n : ℕ). part l n (n + 117)) (sym (zero-add (117 * i)))

      holds : (i : ℕ) → i < 32 → hold_bytes (hold_at (table_of l) i) ≡ part l (3978 + 13 * i) (3978 + 13 * i + 13)
      holds i k = ap hold_bytes (hold-read i k) ∙ hold_bytes-hold_from (part l (3978 + 13 * i) (3978 + 13 * i + 13)) (bytes-part (3978 + 13 * i) (3978 + 13 * i + 13)) (hold-part i k)
