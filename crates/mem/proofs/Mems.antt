-- The laws of what a call has in memory: its table, its flag, and its superblock and maps, each by the bytes that it is.
use mathlib.Core.Path.{◌≡◌, sym, ap, ◌∙◌, subst}
use mathlib.Core.Bool.{Bool}
use mathlib.Core.List.{List, [], ◌∷◌, ◌++◌}
use Prim.Native.Nat.{ℕ, ◌+◌, ◌*◌, ◌-◌, ◌/◌, ◌%◌, ◌^◌, ◌<◌, ◌≤◌}
use native.Mathlib.Nat.{zero-add}
use native.Mathlib.Decide.{ℕ_discrete}
use native.Mathlib.Omega.{arith}
use lib.Dec.{eqb}
use lib.ListN.{length, get_or, take, drop, set, length-set, length-drop}
use lib.Seq.{take_all, get_or-take, get_or-set_same, get_or-set_other, take-set-lt}
use borrow.Author.Tests.{eq-eqb}
use Rattle.base.proofs.Parts.{part-part, part_join, part-all}
use Rattle.base.specs.Out.{done, refused}
use Rattle.base.specs.Parts.{part, back, paste}
use Rattle.base.specs.Reasons.{stuck}
use Rattle.base.specs.Search.{pick}
use Rattle.base.proofs.Lists.{length_part, get_d_part, length-paste, get_or-paste-out, part-paste-other, set-paste}
use Rattle.le.specs.Le.{Bytes, le_of, le_at}
use Rattle.structs.specs.Layout.{super_of, super_bytes}
use Rattle.structs.specs.Fits.{SuperFits}
use Rattle.structs.specs.declared.SuperBlock.{SuperBlock}
use Rattle.structs.proofs.Layouts.{length-super_bytes, super_of-fits}
use Rattle.structs.proofs.Places.{part-written, super-written}
use Rattle.maps.specs.Maps.{bit_of, put_bit, bit_at, with_bit}
use Rattle.maps.proofs.Bits.{length-with_bit}
use Rattle.table.specs.declared.Row.{Row}
use Rattle.table.specs.declared.Table.{Table}
use Rattle.table.specs.Zero.{zero_hold}
use Rattle.table.specs.Table.{off_row, row_at, hold_at, with_row}
use Rattle.table_bytes.specs.Fits.{RowFits, TableFits}
use Rattle.table_bytes.specs.Layout.{row_from, row_bytes, hold_from, row_at_place, hold_at_place, table_of, bytes_of_table}
use Rattle.table_bytes.specs.Runs.{list_to}
use Rattle.table_bytes.proofs.Layouts.{length-row_bytes, row_from-row_bytes, length-fits, table_of-table_bytes}
use Rattle.table_bytes.proofs.Runs.{length-list, get_or-list, list-is, list-cong}
use Rattle.sefs.specs.Meta.{super_with}
use Rattle.mem.specs.Mem.{table_in, super_in, maps_in, meta_in, Whole, Tabled, Mapped, memory_size}

-- ---- lists

-- a part that came back as long as it went is laid over
pub back-paste : (a : List ℕ) (s e : ℕ) (b : List ℕ) → s + length b ≡ e → back a s e b ≡ paste a s b
unfolding paste
back-paste a s e b q = ap (λ (k : ℕ). back a s k b) (sym q)

-- up to the end
pub part_end : (l : List ℕ) (s e : ℕ) → length l ≡ e → s ≤ e → part l s e ≡ drop s l
part_end l s e q h = take_all (e - s) (drop s l) (omega (arith, length-drop s l))

-- a part of the front
part-front : (l : List ℕ) (e s u : ℕ) → u ≤ e → part (part l 0 e) s u ≡ part l s u
part-front l e s u h = part-part l 0 e s u (omega arith) ∙ (λ x. part l (zero-add s x) (zero-add u x))

-- ---- the table

-- row i is the i-th 117 bytes
pub row_read : (m : List ℕ) (i : ℕ) → i < 34 → row_at (table_in m) i ≡ row_from (part m (117 * i) (117 * i + 117))
unfolding table_of row_at_place
row_read m i k = get_or-list (row_at_place m) off_row 34 i k

pub hold-read : (m : List ℕ) (i : ℕ) → i < 32 → hold_at (table_in m) i ≡ hold_from (part m (3978 + 13 * i) (3978 + 13 * i + 13))
unfolding table_of hold_at_place
hold-read m i k = get_or-list (hold_at_place m) zero_hold 32 i k

-- tables of bytes that agree where their holds and the next stamp stand, row by row
pub table_is :
    (m : List ℕ) (t : Table) → length t.rows ≡ 34 → ((i : ℕ) → i < 34 → row_at t i ≡ row_at_place m i) → t.holds ≡ list_to (hold_at_place m) 32 → t.next ≡ le_at m 4394 8 → table_in m ≡ t
unfolding table_of
table_is m t e rows holds next =
    let r : t.rows ≡ list_to (row_at_place m) 34 = list-is (row_at_place m) off_row t.rows 34 e rows in
    λ x. record { rows = sym r x; holds = sym holds x; next = sym next x }

holds_same : (m n : List ℕ) → part n 3978 4402 ≡ part m 3978 4402 → list_to (hold_at_place m) 32 ≡ list_to (hold_at_place n) 32
unfolding hold_at_place
holds_same m n q =
    list-cong zero_hold (hold_at_place m) (hold_at_place n) 32
    (λ i k.
    let a : (l : List ℕ) → part (part l 3978 4402) (13 * i) (13 * i + 13) ≡ part l (3978 + 13 * i) (3978 + (13 * i + 13)) = λ l. part-part l 3978 4402 (13 * i) (13 * i + 13) (omega arith) in
    let e : 3978 + 13 * i + 13 ≡ 3978 + (13 * i + 13) = omega arith in
    let b : part m (3978 + 13 * i) (3978 + (13 * i + 13)) ≡ part n (3978 + 13 * i) (3978 + (13 * i + 13)) = sym (a m) ∙ ap (λ (l : List ℕ). part l (13 * i) (13 * i + 13)) (sym q) ∙ a n in
    ap (λ (k : ℕ). hold_from (part m (3978 + 13 * i) k)) e ∙ ap hold_from b ∙ ap (λ (k : ℕ). hold_from (part n (3978 + 13 * i) k)) (sym e))

next-same : (m n : List ℕ) → part n 3978 4402 ≡ part m 3978 4402 → le_at m 4394 8 ≡ le_at n 4394 8
unfolding le_at
next-same m n q =
    let a : (l : List ℕ) → part (part l 3978 4402) 416 424 ≡ part l 4394 4402 = λ l. part-part l 3978 4402 416 424 (omega arith) in
    ap le_of (sym (a m) ∙ ap (λ (l : List ℕ). part l 416 424) (sym q) ∙ a n)

-- the table looks at its own bytes alone
pub table_kept : (m n : List ℕ) → part n 0 4402 ≡ part m 0 4402 → table_in n ≡ table_in m
unfolding table_of row_at_place
table_kept m n q =
    let b : part n 3978 4402 ≡ part m 3978 4402 = sym (part-front n 4402 3978 4402 (omega arith)) ∙ ap (λ (l : List ℕ). part l 3978 4402) q ∙ part-front m 4402 3978 4402 (omega arith) in
    table_is n (table_in m) (length-list (row_at_place m) 34)
    (λ i k.
    row_read m i k
    ∙ ap row_from
    (sym (part-front m 4402 (117 * i) (117 * i + 117) (omega arith))
    ∙ ap (λ (l : List ℕ). part l (117 * i) (117 * i + 117)) (sym q)
    ∙ part-front n 4402 (117 * i) (117 * i + 117) (omega arith)))
    (holds_same m n b)
    (next-same m n b)

-- row i became r, and the bytes beside it are as they were
pub row-changed : (m n : List ℕ) (i : ℕ) (r : Row) → i < 34 → ((t u : ℕ) → (t < 117 * i + 117 → u ≤ 117 * i) → part n t u ≡ part m t u) → row_from (part n (117 * i) (117 * i + 117)) ≡ r → table_in n ≡ with_row (table_in m) i r
unfolding table_of row_at_place
row-changed m n i r inside beside own =
    let b : part n 3978 4402 ≡ part m 3978 4402 = beside 3978 4402 (λ l. absurd (omega arith)) in
    let s : length (table_in m).rows ≡ 34 = length-list (row_at_place m) 34 in
    table_is n (with_row (table_in m) i r) (length-set (table_in m).rows i r ∙ s)
    (λ j k.
    elim (ℕ_discrete j i) [
      | yes e ↦ rw e (get_or-set_same (table_in m).rows i r off_row (omega (arith, s)) ∙ sym own)
      | no ne ↦
          get_or-set_other (table_in m).rows i j r off_row ne ∙ row_read m j k ∙ ap row_from (sym (beside (117 * j) (117 * j + 117) (λ l. omega (arith, ne))))
    ])
    (holds_same m n b)
    (next-same m n b)

-- a row that is written is in the table, and all else is as it was
module _ (m : List ℕ) (i : ℕ) (r : Row) (long : 4402 ≤ length m) (inside : i < 34) (F : RowFits r) where
  wide : length (row_bytes r) ≡ 117
  wide = length-row_bytes r F.rec.file F.rec.mac

  fit : 117 * i + length (row_bytes r) ≤ length m
  fit = omega (arith, wide)

  pub row_put : table_in (paste m (117 * i) (row_bytes r)) ≡ with_row (table_in m) i r
  row_put =
      row-changed m (paste m (117 * i) (row_bytes r)) i r inside (λ t u h. part-paste-other m (117 * i) (row_bytes r) fit t u (λ l. h (omega (arith, wide, l))))
      (ap row_from (part-written 117 m (117 * i) (row_bytes r) wide (omega arith)) ∙ row_from-row_bytes r F)

  pub row-put-rest : part (paste m (117 * i) (row_bytes r)) 4402 memory_size ≡ part m 4402 memory_size
  row-put-rest = part-paste-other m (117 * i) (row_bytes r) fit 4402 memory_size (λ l. absurd (omega (arith, wide)))

-- a table that is written is in memory
module _ (m : List ℕ) (t : Table) (long : 4402 ≤ length m) (F : TableFits t) where
  table-put : table_in (paste m 0 (bytes_of_table t)) ≡ t
  table-put =
      let n : List ℕ = paste m 0 (bytes_of_table t) in
      let a : part n 0 4402 ≡ bytes_of_table t = part-written 4402 m 0 (bytes_of_table t) (length-fits t F) (omega arith) in
      let b : part (bytes_of_table t) 0 4402 ≡ bytes_of_table t = take_all (4402 - 0) (bytes_of_table t) (omega (arith, length-fits t F)) in
      table_kept (bytes_of_table t) n (a ∙ sym b) ∙ table_of-table_bytes t F

-- ---- flag, superblock and maps: all in the bytes from 4402 on

module _ (m n : List ℕ) (a : length m ≡ memory_size) (b : length n ≡ memory_size) (q : part n 4402 memory_size ≡ part m 4402 memory_size) where
  pub flag-kept : get_or n 4402 0 ≡ get_or m 4402 0
  flag-kept = sym (get_d_part n 4402 memory_size 0 (omega arith)) ∙ ap (λ (l : List ℕ). get_or l 0 0) q ∙ get_d_part m 4402 memory_size 0 (omega arith)

  rest : (s u : ℕ) → u ≤ 529 → part n (4402 + s) (4402 + u) ≡ part m (4402 + s) (4402 + u)
  rest s u h = sym (part-part n 4402 memory_size s u (omega arith)) ∙ ap (λ (l : List ℕ). part l s u) q ∙ part-part m 4402 memory_size s u (omega arith)

  pub super-kept : super_in n ≡ super_in m
  unfolding super_in
  super-kept = ap super_of (rest 1 17 (omega arith))

  pub maps-kept : maps_in n ≡ maps_in m
  unfolding maps_in
  maps-kept =
      let d : drop 4419 n ≡ drop 4419 m = sym (part_end n 4419 memory_size b (omega arith)) ∙ rest 17 529 (omega arith) ∙ part_end m 4419 memory_size a (omega arith) in
      λ x. take (4419 + 128 * (super-kept x).groups - 4419) (d x)

  pub meta-kept : meta_in n ≡ meta_in m
  unfolding meta_in
  meta-kept = λ x. pick (eqb (flag-kept x) 1) (done (record { super = super-kept x; maps = maps-kept x })) (refused stuck)

  pub whole-kept : Whole m → Whole n
  whole-kept W = record {
    size = b;
    some = λ h. subst (λ (s : SuperBlock). 0 < s.groups) (sym super-kept) (W.some (sym flag-kept ∙ h));
    few = λ h. subst (λ (s : SuperBlock). s.groups ≤ 4) (sym super-kept) (W.few (sym flag-kept ∙ h));
  }

  -- the table alone was changed
  pub tabled : (t : Table) → Whole m → table_in n ≡ t → Tabled m n t
  tabled t W e = record { table = e; meta = meta-kept; whole = whole-kept W }

-- where superblock and maps were not read, there is nothing of them to be whole
whole-unread : (m : List ℕ) → length m ≡ memory_size → get_or m 4402 0 ≡ 0 → Whole m
whole-unread m size e = record { size = size; some = λ h. absurd (omega (arith, e, h)); few = λ h. absurd (omega (arith, e, h)) }

-- a call's start: the flag is cleared, and the table is written
pub table-start :
    (m f n : List ℕ) (t : Table) → length m ≡ memory_size → TableFits t → f ≡ set m 4402 0 → n ≡ paste f 0 (bytes_of_table t) → (table_in n ≡ t) × Whole n
table-start m f n t size F ef en =
    let h : length f ≡ memory_size = ap length ef ∙ length-set m 4402 0 ∙ size in
    let l : length (bytes_of_table t) ≡ 4402 = length-fits t F in
    let fit : 0 + length (bytes_of_table t) ≤ length f = omega (arith, h, l) in
    let long : 4402 ≤ length f = omega (arith, h) in
    let z : get_or f 4402 0 ≡ 0 = ap (λ (k : List ℕ). get_or k 4402 0) ef ∙ get_or-set_same m 4402 0 0 (omega arith) in
    let k : length n ≡ memory_size = ap length en ∙ length-paste f 0 (bytes_of_table t) fit ∙ h in
    let e : get_or n 4402 0 ≡ 0 = ap (λ (k : List ℕ). get_or k 4402 0) en ∙ get_or-paste-out f 0 (bytes_of_table t) fit 4402 (λ q. omega (arith, l)) ∙ z in
    (ap table_in en ∙ table-put f t long F, whole-unread n k e)

-- the flag is cleared, and the table's bytes t are laid over their place
pub bytes-start : (m f d t : List ℕ) → length m ≡ memory_size → length t ≡ 4402 → f ≡ set m 4402 0 → d ≡ t
    → (table_in (back f 0 4402 d) ≡ table_of t) × Whole (back f 0 4402 d)
bytes-start m f d t size long ef ed =
    let h : length f ≡ memory_size = ap length ef ∙ length-set m 4402 0 ∙ size in
    let n : List ℕ = paste f 0 t in
    let fit : 0 + length t ≤ length f = omega (arith, h, long) in
    let b : back f 0 4402 d ≡ n = ap (back f 0 4402) ed ∙ back-paste f 0 4402 t (omega (arith, long)) in
    let z : get_or n 4402 0 ≡ 0 = get_or-paste-out f 0 t fit 4402 (λ q. omega (arith, long)) ∙ ap (λ (k : List ℕ). get_or k 4402 0) ef ∙ get_or-set_same m 4402 0 0 (omega (arith, size)) in
    let p : part n 0 4402 ≡ part t 0 4402 = part-written 4402 f 0 t long (omega (arith, h)) ∙ sym (take_all (4402 - 0) t (omega (arith, long))) in
    (ap table_in b ∙ table_kept t n p, subst Whole (sym b) (whole-unread n (length-paste f 0 t fit ∙ h) z))

-- the table's own bytes alone are the table
pub table-front : (m : List ℕ) → table_of (part m 0 4402) ≡ table_in m
table-front m = table_kept m (part m 0 4402) (part-front m 4402 0 4402 (omega arith))

-- where the flag is set
pub meta-is : (m : List ℕ) → get_or m 4402 0 ≡ 1 → meta_in m ≡ done (record { super = super_in m; maps = maps_in m })
unfolding meta_in
meta-is m e = ap (λ (b : Bool). pick b (done (record { super = super_in m; maps = maps_in m })) (refused stuck)) (eq-eqb (get_or m 4402 0) 1 e)

-- a superblock that is written, after the maps: the state was m, and is d but for the superblock
module _ (m d : List ℕ) (sb : SuperBlock) (size : length d ≡ memory_size) (front : part d 0 4402 ≡ part m 0 4402) (flag : get_or d 4402 0 ≡ 1) (F : SuperFits sb) (some : 0 < sb.groups) (few : sb.groups ≤ 4) where
  fit16 : 4403 + length (super_bytes sb) ≤ length d
  fit16 = omega (arith, length-super_bytes sb)

  pub super-put : super_in (paste d 4403 (super_bytes sb)) ≡ sb
  unfolding super_in
  super-put = super-written d 4403 sb F (omega arith)

  maps-put : maps_in (paste d 4403 (super_bytes sb)) ≡ part d 4419 (4419 + 128 * sb.groups)
  unfolding maps_in
  maps-put =
      ap (λ (s : SuperBlock). part (paste d 4403 (super_bytes sb)) 4419 (4419 + 128 * s.groups)) super-put
      ∙ part-paste-other d 4403 (super_bytes sb) fit16 4419 (4419 + 128 * sb.groups) (λ l. absurd (omega (arith, length-super_bytes sb)))

  pub mapped : (maps : List ℕ) → part d 4419 (4419 + 128 * sb.groups) ≡ maps → Mapped m (paste d 4403 (super_bytes sb)) (record { super = sb; maps = maps })
  mapped maps e =
      let n : List ℕ = paste d 4403 (super_bytes sb) in
      let f : get_or n 4402 0 ≡ 1 = get_or-paste-out d 4403 (super_bytes sb) fit16 4402 (λ l. absurd (omega arith)) ∙ flag in
      let p : maps_in n ≡ maps = maps-put ∙ e in
      record {
        table = table_kept m n (part-paste-other d 4403 (super_bytes sb) fit16 0 4402 (λ l. omega arith) ∙ front);
        meta = meta-is n f ∙ (λ x. done (record { super = super-put x; maps = p x }));
        whole = record {
          size = length-paste d 4403 (super_bytes sb) fit16 ∙ size;
          some = λ h. subst (λ (s : SuperBlock). 0 < s.groups) (sym super-put) some;
          few = λ h. subst (λ (s : SuperBlock). s.groups ≤ 4) (sym super-put) few;
        };
      }

-- ---- bits

-- a bit of the groups' maps is one of all four groups' bytes
pub bit_in : (m : List ℕ) (groups id : ℕ) → groups ≤ 4 → id < 1024 * groups → bit_at (part m 4419 memory_size) id ≡ bit_at (part m 4419 (4419 + 128 * groups)) id
unfolding bit_at
bit_in m groups id h l =
    ap (λ (x : ℕ). bit_of x (id % 8)) (get_d_part m 4419 memory_size (id / 8) (omega arith) ∙ sym (get_d_part m 4419 (4419 + 128 * groups) (id / 8) (omega arith)))

-- a bit put in the front is put in the whole
pub with_bit-front : (l : List ℕ) (k id : ℕ) (b : Bool) → id / 8 < k → part (with_bit l id b) 0 k ≡ with_bit (part l 0 k) id b
unfolding with_bit
with_bit-front l k id b h =
    take-set-lt (k - 0) l (id / 8) (put_bit (get_or l (id / 8) 0) (id % 8) b) (omega arith)
    ∙ ap (λ (x : ℕ). set (part l 0 k) (id / 8) (put_bit x (id % 8) b)) (sym (get_or-take (k - 0) l (id / 8) 0 (omega arith)))

-- ---- the steps that change superblock and maps

pub super-fits : (m : List ℕ) → Bytes m → SuperFits (super_in m)
unfolding super_in
super-fits m h = super_of-fits (part m 4403 4419) (part-all (λ x. x < 256) m (omega arith) h 4403 4419)

-- bytes laid over the maps
module _ (m : List ℕ) (o : ℕ) (b : List ℕ) (size : length m ≡ memory_size) (after : 4419 ≤ o) (fit : o + length b ≤ memory_size) where
  fits : o + length b ≤ length m
  fits = omega arith

  laid-size : length (paste m o b) ≡ memory_size
  laid-size = length-paste m o b fits ∙ size

  laid-front : part (paste m o b) 0 4402 ≡ part m 0 4402
  laid-front = part-paste-other m o b fits 0 4402 (λ l. omega arith)

  laid-flag : get_or (paste m o b) 4402 0 ≡ get_or m 4402 0
  laid-flag = get_or-paste-out m o b fits 4402 (λ l. absurd (omega arith))

-- a bit, and the count of unused ids
pub bit-stored :
    (m n l : List ℕ) (id unused : ℕ) (b : Bool) (r : SuperBlock) → Whole m → Bytes m → get_or m 4402 0 ≡ 1 → id < 1024 * (super_in m).groups → unused < 2 ^ 32 → r ≡ super_in m → l ≡ with_bit (part m 4419 memory_size) id b
    → n ≡ paste (back m 4419 memory_size l) 4403 (super_bytes (super_with r r.blocks unused r.groups))
    → Mapped m n (record { super = super_with (super_in m) (super_in m).blocks unused (super_in m).groups; maps = with_bit (maps_in m) id b })
unfolding maps_in
bit-stored m n l id unused b r W bytes f h u er el en =
    let g : ℕ = (super_in m).groups in
    let few : g ≤ 4 = W.few f in
    let size : length m ≡ memory_size = W.size in
    let p : List ℕ = part m 4419 memory_size in
    let sp : length p ≡ 512 = length_part m 4419 memory_size (omega arith) (omega arith) in
    let L : List ℕ = with_bit p id b in
    let sl : length L ≡ 512 = length-with_bit p id b (omega arith) ∙ sp in
    let F = super-fits m bytes in
    let sb : SuperBlock = super_with (super_in m) (super_in m).blocks unused g in
    let d : List ℕ = paste m 4419 L in
    let e : n ≡ paste d 4403 (super_bytes sb) = en ∙ (λ x. paste (back m 4419 memory_size (el x)) 4403 (super_bytes (super_with (er x) (er x).blocks unused (er x).groups))) ∙ ap (λ (k : List ℕ). paste k 4403 (super_bytes sb)) (back-paste m 4419 memory_size L (omega arith)) in
    let a : part d 4419 (4419 + 128 * g) ≡ part L 0 (128 * g) =
    sym (part-part d 4419 memory_size 0 (128 * g) (omega arith)) ∙ ap (λ (k : List ℕ). part k 0 (128 * g)) (part-written 512 m 4419 L sl (omega arith)) in
    let c : part p 0 (128 * g) ≡ part m 4419 (4419 + 128 * g) = part-part m 4419 memory_size 0 (128 * g) (omega arith) in
    subst (λ (k : List ℕ). Mapped m k (record { super = sb; maps = with_bit (part m 4419 (4419 + 128 * g)) id b })) (sym e)
    (mapped m d sb (laid-size m 4419 L size (omega arith) (omega arith)) (laid-front m 4419 L size (omega arith) (omega arith)) (laid-flag m 4419 L size (omega arith) (omega arith) ∙ f)
    (record { magic = F.magic; blocks = F.blocks; unused = u; groups = F.groups }) (W.some f) few _
    (a ∙ with_bit-front p (128 * g) id b (omega arith) ∙ ap (λ (k : List ℕ). with_bit k id b) c))

-- a group more, with its map
pub group-stored :
    (m n l map : List ℕ) (o : ℕ) (r : SuperBlock) → Whole m → Bytes m → get_or m 4402 0 ≡ 1 → (super_in m).groups < 4 → (super_in m).blocks + 1024 < 2 ^ 32 → (super_in m).unused + 1023 < 2 ^ 32 → length map ≡ 128 → r ≡ super_in m → o ≡ 4419 + 128 * (super_in m).groups → l ≡ map
    → n ≡ paste (back m o (o + 128) l) 4403 (super_bytes (super_with r (r.blocks + 1024) (r.unused + 1023) (r.groups + 1)))
    → Mapped m n (record { super = super_with (super_in m) ((super_in m).blocks + 1024) ((super_in m).unused + 1023) ((super_in m).groups + 1); maps = maps_in m ++ map })
unfolding maps_in
group-stored m n l map o r W bytes f few hb hu sm er eo el en =
    let g : ℕ = (super_in m).groups in
    let size : length m ≡ memory_size = W.size in
    let F = super-fits m bytes in
    let s : ℕ = 4419 + 128 * g in
    let sb : SuperBlock = super_with (super_in m) ((super_in m).blocks + 1024) ((super_in m).unused + 1023) (g + 1) in
    let d : List ℕ = paste m s map in
    let e : n ≡ paste d 4403 (super_bytes sb) = en ∙ (λ x. paste (back m (eo x) (eo x + 128) (el x)) 4403 (super_bytes (super_with (er x) ((er x).blocks + 1024) ((er x).unused + 1023) ((er x).groups + 1)))) ∙ ap (λ (k : List ℕ). paste k 4403 (super_bytes sb)) (back-paste m s (s + 128) map (omega arith)) in
    let w : 128 * (g + 1) ≡ 128 * g + 128 = omega arith in
    let a : part d 4419 s ≡ part m 4419 s = part-paste-other m s map (omega arith) 4419 s (λ k. omega arith) in
    let c : part d s (s + 128) ≡ map = part-written 128 m s map sm (omega arith) in
    subst (λ (k : List ℕ). Mapped m k (record { super = sb; maps = part m 4419 s ++ map })) (sym e)
    (mapped m d sb (laid-size m s map size (omega arith) (omega arith)) (laid-front m s map size (omega arith) (omega arith)) (laid-flag m s map size (omega arith) (omega arith) ∙ f)
    (record { magic = F.magic; blocks = hb; unused = hu; groups = omega arith }) (omega arith) (omega arith) _
    (ap (λ (k : ℕ). part d 4419 (4419 + k)) w ∙ part_join d 4419 (128 * g) 128 ∙ (λ x. a x ++ c x)))

-- superblock and map of one group, and the flag
pub one-stored :
    (m f n l map : List ℕ) (sb : SuperBlock) → length m ≡ memory_size → SuperFits sb → sb.groups ≡ 1 → length map ≡ 128 → f ≡ set m 4402 1 → l ≡ map → n ≡ paste (back f 4419 4547 l) 4403 (super_bytes sb) → Mapped m n (record { super = sb; maps = map })
one-stored m f n l map sb size F one sm ef el en =
    let h : List ℕ = set m 4402 1 in
    let sh : length h ≡ memory_size = length-set m 4402 1 ∙ size in
    let fr : part h 0 4402 ≡ part m 0 4402 = ap (λ (k : List ℕ). part k 0 4402) (set-paste m 4402 1 (omega arith)) ∙ part-paste-other m 4402 (1 ∷ []) (omega arith) 0 4402 (λ k. omega arith) in
    let fl : get_or h 4402 0 ≡ 1 = get_or-set_same m 4402 1 0 (omega arith) in
    let d : List ℕ = paste h 4419 map in
    let e : n ≡ paste d 4403 (super_bytes sb) = en ∙ (λ x. paste (back (ef x) 4419 4547 (el x)) 4403 (super_bytes sb)) ∙ ap (λ (k : List ℕ). paste k 4403 (super_bytes sb)) (back-paste h 4419 4547 map (omega arith)) in
    subst (λ (k : List ℕ). Mapped m k (record { super = sb; maps = map })) (sym e)
    (mapped m d sb (laid-size h 4419 map sh (omega arith) (omega arith)) (laid-front h 4419 map sh (omega arith) (omega arith) ∙ fr) (laid-flag h 4419 map sh (omega arith) (omega arith) ∙ fl)
    F (omega arith) (omega arith) _
    (ap (λ (k : ℕ). part d 4419 (4419 + 128 * k)) one ∙ part-written 128 h 4419 map sm (omega arith)))
