-- The marks of a table's bytes: a table sees of each only whether it is 0, so that bytes with each mark made 0 or 1 are the same table, as it is
-- written.
use mathlib.Core.Path.{◌≡◌, refl, sym, ap, ◌∙◌, subst}
use mathlib.Core.Bool.{Bool, true, false, not}
use mathlib.Core.List.{List, [], ◌∷◌}
use Prim.Native.Nat.{ℕ, zero, suc, ◌+◌, ◌*◌, ◌<◌, ◌≤◌}
use native.Mathlib.Decide.{ℕ_discrete}
use native.Mathlib.Omega.{arith}
use lib.ListN.{length, get_or}
use lib.Seq.{get_or-set_same, get_or-set_other}
use lib.Dec.{eqb}
use Rattle.base.specs.Count.{bit}
use Rattle.base.specs.Parts.{part, paste}
use Rattle.base.proofs.Lists.{get_d_part, length-paste, part-paste-other, set-paste}
use Rattle.base.proofs.Parts.{part-part, paste_all}
use Rattle.le.specs.Le.{Bytes, le_at, le_of}
use Rattle.structs.specs.Layout.{record_of}
use Rattle.table.specs.Zero.{zero_hold}
use Rattle.table.specs.Table.{off_row}
use Rattle.table_bytes.specs.Layout.{row_from, hold_from, row_at_place, hold_at_place, table_of, bytes_of_table}
use Rattle.table_bytes.proofs.Layouts.{table_bytes-table_of}
use Rattle.table_bytes.proofs.Runs.{list-cong}

-- ---- one mark

module _ (l : List ℕ) (i v : ℕ) (size : length l ≡ 4402) (inside : i < 34) where
  fit : 117 * i + 4 + length (v ∷ []) ≤ length l
  fit = omega arith

  other : (t u : ℕ) → (t < 117 * i + 5 → u ≤ 117 * i + 4) → part (paste l (117 * i + 4) (v ∷ [])) t u ≡ part l t u
  other t u h = part-paste-other l (117 * i + 4) (v ∷ []) fit t u (λ k. h (omega arith))

  at_mark : get_or (paste l (117 * i + 4) (v ∷ [])) (117 * i + 4) 0 ≡ v
  at_mark = ap (λ (k : List ℕ). get_or k (117 * i + 4) 0) (sym (set-paste l (117 * i + 4) v (omega arith))) ∙ get_or-set_same l (117 * i + 4) v 0 (omega arith)

  off-mark : (j : ℕ) → (j ≡ i → ⊥) → get_or (paste l (117 * i + 4) (v ∷ [])) (117 * j + 4) 0 ≡ get_or l (117 * j + 4) 0
  off-mark j ne =
      ap (λ (k : List ℕ). get_or k (117 * j + 4) 0) (sym (set-paste l (117 * i + 4) v (omega arith)))
      ∙ get_or-set_other l (117 * i + 4) (117 * j + 4) v 0 (λ q. ne (omega arith))

  -- a row whose mark reads as it did
  row_same : not (eqb v 0) ≡ not (eqb (get_or l (117 * i + 4) 0) 0) → row_at_place (paste l (117 * i + 4) (v ∷ [])) i ≡ row_at_place l i
  unfolding row_at_place row_from le_at
  row_same e =
      let m : List ℕ = paste l (117 * i + 4) (v ∷ []) in
      let o : ℕ = 117 * i in
      let id : (k : List ℕ) → part (part k o (o + 117)) 0 4 ≡ part k (o + 0) (o + 4) = λ k. part-part k o (o + 117) 0 4 (omega arith) in
      let rec : (k : List ℕ) → part (part k o (o + 117)) 5 117 ≡ part k (o + 5) (o + 117) = λ k. part-part k o (o + 117) 5 117 (omega arith) in
      let mark : (k : List ℕ) → get_or (part k o (o + 117)) 4 0 ≡ get_or k (o + 4) 0 = λ k. get_d_part k o (o + 117) 4 (omega arith) in
      let a : part (part m o (o + 117)) 0 4 ≡ part (part l o (o + 117)) 0 4 = id m ∙ other (o + 0) (o + 4) (λ k. omega arith) ∙ sym (id l) in
      let b : not (eqb (get_or (part m o (o + 117)) 4 0) 0) ≡ not (eqb (get_or (part l o (o + 117)) 4 0) 0) =
      ap (λ (n : ℕ). not (eqb n 0)) (mark m ∙ at_mark) ∙ e ∙ ap (λ (n : ℕ). not (eqb n 0)) (sym (mark l)) in
      let c : part (part m o (o + 117)) 5 117 ≡ part (part l o (o + 117)) 5 117 = rec m ∙ other (o + 5) (o + 117) (λ k. absurd (omega arith)) ∙ sym (rec l) in
      λ x. record { id = le_of (a x); dirty = b x; rec = record_of (c x) }

  row-beside : (j : ℕ) → (j ≡ i → ⊥) → row_at_place (paste l (117 * i + 4) (v ∷ [])) j ≡ row_at_place l j
  unfolding row_at_place
  row-beside j ne = ap row_from (other (117 * j) (117 * j + 117) (λ k. omega (arith, ne)))

  mark-same : not (eqb v 0) ≡ not (eqb (get_or l (117 * i + 4) 0) 0) → table_of (paste l (117 * i + 4) (v ∷ [])) ≡ table_of l
  unfolding table_of hold_at_place le_at
  mark-same e =
      let m : List ℕ = paste l (117 * i + 4) (v ∷ []) in
      let rows = list-cong off_row (row_at_place m) (row_at_place l) 34 (λ j k. elim (ℕ_discrete j i) [ yes q ↦ rw q (row_same e) | no ne ↦ row-beside j ne ]) in
      let holds = list-cong zero_hold (hold_at_place m) (hold_at_place l) 32 (λ j k. ap hold_from (other (3978 + 13 * j) (3978 + 13 * j + 13) (λ q. absurd (omega arith)))) in
      let next = other 4394 4402 (λ q. absurd (omega arith)) in
      λ x. record { rows = rows x; holds = holds x; next = le_of (next x) }

-- ---- every mark

bit-most : (b : Bool) → bit b ≤ 1
bit-most true = omega arith
bit-most false = omega arith

bit-again : (b : Bool) → not (eqb (bit b) 0) ≡ b
bit-again true = refl
bit-again false = refl

-- a loop over the marks of b has come to l: the marks below i are 0 or 1, and the table is the same
pub record Settled (b l : List ℕ) (i : ℕ) : Type 0 where
  pub size : length l ≡ 4402
  pub same : table_of l ≡ table_of b
  pub bytes : Bytes l
  pub marks : (j : ℕ) → j < i → get_or l (117 * j + 4) 0 ≤ 1

pub settled-none : (b : List ℕ) → length b ≡ 4402 → Bytes b → Settled b b 0
settled-none b size bytes = record { size = size; same = refl; bytes = bytes; marks = λ j k. absurd (omega arith) }

pub settled-more : (b l n : List ℕ) (i : ℕ) → i < 34 → Settled b l i → n ≡ paste l (117 * i + 4) (bit (not (eqb (get_or l (117 * i + 4) 0) 0)) ∷ []) → Settled b n (i + 1)
settled-more b l n i k S e =
    let d : Bool = not (eqb (get_or l (117 * i + 4) 0) 0) in
    let f = fit l i (bit d) S.size k in
    subst (λ (m : List ℕ). Settled b m (i + 1)) (sym e)
    (record {
      size = length-paste l (117 * i + 4) (bit d ∷ []) f ∙ S.size;
      same = mark-same l i (bit d) S.size k (bit-again d) ∙ S.same;
      bytes = paste_all (λ x. x < 256) l (117 * i + 4) (bit d ∷ []) f S.bytes (one d);
      marks = λ j h. elim (ℕ_discrete j i) [
        | yes q ↦ rw q (rw (at_mark l i (bit d) S.size k) (bit-most d))
        | no ne ↦ rw (off-mark l i (bit d) S.size k j ne) (S.marks j (omega (arith, ne)))
      ];
    })
  where
    one : (d : Bool) (j : ℕ) → get_or (bit d ∷ []) j 0 < 256
    one d zero = omega (arith, bit-most d)
    one d (suc j) = omega arith

-- all are settled: the bytes are the table's as it is written
pub settled-all : (b l : List ℕ) (i : ℕ) → 34 ≤ i → Settled b l i → l ≡ bytes_of_table (table_of b)
settled-all b l i k S = sym (table_bytes-table_of l S.bytes S.size (λ j h. S.marks j (omega arith))) ∙ ap bytes_of_table S.same
