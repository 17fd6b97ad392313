-- What the memory's bytes are: rows, superblock and maps in their places.
use mathlib.Core.Path.{◌≡◌, refl, ap, ◌∙◌}
use mathlib.Core.Bool.{Bool, true, false}
use mathlib.Core.List.{List, [], ◌∷◌}
use Prim.Native.Nat.{ℕ, ◌+◌, ◌*◌, ◌≤◌, ◌<◌}
use native.Mathlib.Omega.{arith}
use lib.ListN.{length, get_or, set, length-set}
use lib.Seq.{get_or-set_same}
use lib.Dec.{eqb}
use borrow.Author.Tests.{eq-eqb, eqb-true}
use Rattle.base.proofs.Parts.{part-part, part-all}
use Rattle.base.specs.Out.{done, refused, kept}
use Rattle.base.specs.Parts.{part}
use Rattle.base.specs.Reasons.{stuck}
use Rattle.base.specs.Search.{pick}
use Rattle.base.proofs.Lists.{length_part, set-paste, part-paste-other}
use Rattle.le.specs.Le.{Bytes, le_at, le_of}
use Rattle.structs.specs.Layout.{super_of, super_bytes, record_bytes}
use Rattle.structs.specs.declared.SuperBlock.{SuperBlock}
use Rattle.structs.proofs.Layouts.{super_bytes-super_of, record_bytes-record_of}
use Rattle.table.specs.declared.Row.{Row}
use Rattle.table.specs.Table.{off_row, row_at}
use Rattle.table.specs.Zero.{zero_hold}
use Rattle.table_bytes.specs.Layout.{row_from, hold_from, row_at_place, hold_at_place, table_of}
use Rattle.table_bytes.specs.Runs.{list_to}
use Rattle.table_bytes.proofs.Runs.{length-list, get_or-list, list-is}
use Rattle.sefs.specs.State.{Meta}
use Rattle.mem.specs.Mem.{table_in, super_in, maps_in, meta_in, Whole, memory_size}
use Rattle.nodes.specs.Steps.{meta_of}
use Rattle.nodes.proofs.Common.{part-agree}

-- ---- the table

-- a row's record has its bytes in memory
pub row-bytes : (m : List ℕ) (i : ℕ) → Bytes m → length m ≡ memory_size → i < 34 → record_bytes (row_at (table_in m) i).rec ≡ part m (117 * i + 5) (117 * i + 5 + 112)
unfolding table_of row_at_place row_from
row-bytes m i b h l =
    let k : 117 * i + 117 ≤ memory_size = omega arith in
    let p : List ℕ = part m (117 * i) (117 * i + 117) in
    ap (λ (r : Row). record_bytes r.rec) (get_or-list (λ j. row_from (part m (117 * j) (117 * j + 117))) off_row 34 i l)
    ∙ (record_bytes-record_of (part p 5 117) (part-all (λ n. n < 256) p (omega arith) (part-all (λ n. n < 256) m (omega arith) b (117 * i) (117 * i + 117)) 5 117)
    (length_part p 5 117 (omega arith) (omega (arith, length_part m (117 * i) (117 * i + 117) (omega arith) (omega arith))))
    ∙ (part-part m (117 * i) (117 * i + 117) 5 117 (omega arith) ∙ ap (part m (117 * i + 5)) (let q : 117 * i + 117 ≡ 117 * i + 5 + 112 = omega arith in q)))

-- the table looks at the first 4,402 bytes
pub table-agree : (m n : List ℕ) → part n 0 4402 ≡ part m 0 4402 → table_in n ≡ table_in m
unfolding table_of row_at_place hold_at_place le_at
table-agree m n h =
    let rows = list-is (λ i. row_from (part m (117 * i) (117 * i + 117))) off_row (list_to (λ i. row_from (part n (117 * i) (117 * i + 117))) 34) 34 (length-list (λ i. row_from (part n (117 * i) (117 * i + 117))) 34) (λ i l. get_or-list (λ j. row_from (part n (117 * j) (117 * j + 117))) off_row 34 i l ∙ ap row_from (part-agree n m 4402 (117 * i) (117 * i + 117) (omega arith) h)) in
    let holds = list-is (λ i. hold_from (part m (3978 + 13 * i) (3978 + 13 * i + 13))) zero_hold (list_to (λ i. hold_from (part n (3978 + 13 * i) (3978 + 13 * i + 13))) 32) 32 (length-list (λ i. hold_from (part n (3978 + 13 * i) (3978 + 13 * i + 13))) 32) (λ i l. get_or-list (λ j. hold_from (part n (3978 + 13 * j) (3978 + 13 * j + 13))) zero_hold 32 i l ∙ ap hold_from (part-agree n m 4402 (3978 + 13 * i) (3978 + 13 * i + 13) (omega arith) h)) in
    let next = ap le_of (part-agree n m 4402 4394 4402 (omega arith) h) in
    λ x. record { rows = rows x; holds = holds x; next = next x }

-- ---- superblock and maps

pub meta-is : (m : List ℕ) → get_or m 4402 0 ≡ 1 → meta_in m ≡ done (meta_of m)
unfolding meta_in
meta-is m h = rw (eq-eqb (get_or m 4402 0) 1 h)

pub meta-none : (m : List ℕ) → eqb (get_or m 4402 0) 1 ≡ false → meta_in m ≡ refused 19
unfolding meta_in
meta-none m h = rw h

-- where there are any, they are those in memory
pub meta-has : (m : List ℕ) (x : Meta) → meta_in m ≡ done x → (get_or m 4402 0 ≡ 1) × (meta_of m ≡ x)
unfolding meta_in
meta-has m x e = go (eqb (get_or m 4402 0) 1) refl e
  where
    go : (b : Bool) → eqb (get_or m 4402 0) 1 ≡ b → pick b (done (meta_of m)) (refused stuck) ≡ done x → (get_or m 4402 0 ≡ 1) × (meta_of m ≡ x)
    go true t f = (eqb-true (get_or m 4402 0) 1 t, ap (kept x) f)
    go false t f = absurd (let z : ◌≡◌ {A = ℕ} 0 1 = cc in omega arith)

pub length-maps : (m : List ℕ) → Whole m → get_or m 4402 0 ≡ 1 → length (maps_in m) ≡ 128 * (super_in m).groups
unfolding maps_in
length-maps m w h =
    length_part m 4419 (4419 + 128 * (super_in m).groups) (omega arith) (omega (arith, w.few h, w.size)) ∙ omega arith

-- a group's map among the maps joined
pub map-part : (m : List ℕ) (g : ℕ) → g < (super_in m).groups → part (maps_in m) (128 * g) (128 * g + 128) ≡ part m (4419 + 128 * g) (4419 + 128 * g + 128)
unfolding maps_in
map-part m g h =
    part-part m 4419 (4419 + 128 * (super_in m).groups) (128 * g) (128 * g + 128) (omega arith) ∙ ap (part m (4419 + 128 * g)) (let q : 4419 + (128 * g + 128) ≡ 4419 + 128 * g + 128 = omega arith in q)

pub super-part : (m : List ℕ) → Bytes m → length m ≡ memory_size → super_bytes (super_in m) ≡ part m 4403 4419
unfolding super_in
super-part m b h =
    super_bytes-super_of (part m 4403 4419) (part-all (λ n. n < 256) m (omega arith) b 4403 4419) (length_part m 4403 4419 (omega arith) (omega arith))

-- ---- the mark before them

module _ (m : List ℕ) (v : ℕ) (h : length m ≡ memory_size) where
  -- what lies behind the mark, and before it
  part-mark : (s e : ℕ) → (s < 4403 → e ≤ 4402) → part (set m 4402 v) s e ≡ part m s e
  part-mark s e g =
      ap (λ (l : List ℕ). part l s e) (set-paste m 4402 v (omega arith)) ∙ part-paste-other m 4402 (v ∷ []) (omega arith) s e (λ l. g (omega arith))

  pub mark-table : table_in (set m 4402 v) ≡ table_in m
  mark-table = table-agree m (set m 4402 v) (part-mark 0 4402 (λ _. omega arith))

  pub mark-super : super_in (set m 4402 v) ≡ super_in m
  unfolding super_in
  mark-super = ap super_of (part-mark 4403 4419 (λ l. absurd (omega arith)))

  pub mark-meta : meta_of (set m 4402 v) ≡ meta_of m
  unfolding maps_in
  mark-meta =
      let maps = ap (λ (s : SuperBlock). part (set m 4402 v) 4419 (4419 + 128 * s.groups)) mark-super ∙ part-mark 4419 (4419 + 128 * (super_in m).groups) (λ l. absurd (omega arith)) in
      λ x. record { super = mark-super x; maps = maps x }

  pub mark-at : get_or (set m 4402 v) 4402 0 ≡ v
  mark-at = get_or-set_same m 4402 v 0 (omega arith)

  pub mark-size : length (set m 4402 v) ≡ memory_size
  mark-size = length-set m 4402 v ∙ h
