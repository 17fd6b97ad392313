-- The fields of a row, by the bytes that they are in memory: read there, and one number of a record changed there.
use mathlib.Core.Path.{◌≡◌, sym, ap, ◌∙◌}
use mathlib.Core.Bool.{true, not}
use mathlib.Core.List.{List, [], ◌∷◌}
use Prim.Native.Nat.{ℕ, ◌+◌, ◌*◌, ◌^◌, ◌<◌, ◌≤◌}
use native.Mathlib.Omega.{arith}
use lib.ListN.{length, get_or, set}
use lib.Seq.{get_or-set_same}
use lib.Dec.{eqb}
use Rattle.base.specs.Parts.{part, paste}
use Rattle.base.proofs.Lists.{get_d_part, length-paste, part-paste-other, set-paste}
use Rattle.base.proofs.Parts.{part-part}
use Rattle.le.specs.Le.{le_of, le_at, le_bytes, le_put}
use Rattle.le.specs.Signed.{signed}
use Rattle.le.proofs.Laws.{le_at-part, length-le_bytes, le_at-le_put-fits}
use Rattle.structs.specs.Layout.{time_of, record_of}
use Rattle.structs.specs.declared.DiskINode.{DiskINode}
use Rattle.table.specs.declared.Row.{Row}
use Rattle.table.specs.Table.{row_at, take_row}
use Rattle.table_bytes.specs.Layout.{row_from}
use Rattle.sefs.specs.Records.{with_links, with_blocks}
use Rattle.mem.specs.Mem.{table_in, Whole, Tabled, memory_size}
use Rattle.mem.proofs.Mems.{row_read, row-changed, tabled}

-- ---- read

-- the bytes from k to e of row i's record
rec-part : (m : List ℕ) (i k e : ℕ) → e ≤ 112 → part (part (part m (117 * i) (117 * i + 117)) 5 117) k e ≡ part m (117 * i + (5 + k)) (117 * i + (5 + e))
rec-part m i k e h =
    part-part (part m (117 * i) (117 * i + 117)) 5 117 k e (omega arith) ∙ part-part m (117 * i) (117 * i + 117) (5 + k) (5 + e) (omega arith)

rec-number : (m : List ℕ) (i k n : ℕ) → k + n ≤ 112 → le_at (part (part m (117 * i) (117 * i + 117)) 5 117) k n ≡ le_at m (117 * i + (5 + k)) n
rec-number m i k n h =
    le_at-part (part m (117 * i) (117 * i + 117)) 5 117 k n (omega arith) ∙ le_at-part m (117 * i) (117 * i + 117) (5 + k) n (omega arith)

module _ (m : List ℕ) (i : ℕ) (inside : i < 34) where
  pub id-read : le_at m (117 * i) 4 ≡ (row_at (table_in m) i).id
  unfolding row_from
  id-read =
      ap (λ (k : ℕ). le_at m k 4) (let q : 117 * i ≡ 117 * i + 0 = omega arith in q)
      ∙ sym (le_at-part m (117 * i) (117 * i + 117) 0 4 (omega arith))
      ∙ sym (ap (λ (r : Row). r.id) (row_read m i inside))

  pub mark-read : not (eqb (get_or m (117 * i + 4) 0) 0) ≡ (row_at (table_in m) i).dirty
  unfolding row_from
  mark-read =
      ap (λ (n : ℕ). not (eqb n 0)) (sym (get_d_part m (117 * i) (117 * i + 117) 4 (omega arith)))
      ∙ sym (ap (λ (r : Row). r.dirty) (row_read m i inside))

  pub kind-read : le_at m (117 * i + 13) 4 ≡ (row_at (table_in m) i).rec.kind
  unfolding row_from record_of
  kind-read = sym (rec-number m i 8 4 (omega arith)) ∙ sym (ap (λ (r : Row). r.rec.kind) (row_read m i inside))

  pub nlinks-read : le_at m (117 * i + 19) 2 ≡ (row_at (table_in m) i).rec.nlinks
  unfolding row_from record_of
  nlinks-read = sym (rec-number m i 14 2 (omega arith)) ∙ sym (ap (λ (r : Row). r.rec.nlinks) (row_read m i inside))

  pub blocks-read : le_at m (117 * i + 21) 4 ≡ (row_at (table_in m) i).rec.blocks
  unfolding row_from record_of
  blocks-read = sym (rec-number m i 16 4 (omega arith)) ∙ sym (ap (λ (r : Row). r.rec.blocks) (row_read m i inside))

  pub file-read : part m (117 * i + 85) (117 * i + 85 + 16) ≡ (row_at (table_in m) i).rec.file
  unfolding row_from record_of
  file-read =
      ap (part m (117 * i + 85)) (let q : 117 * i + 85 + 16 ≡ 117 * i + 101 = omega arith in q)
      ∙ sym (rec-part m i 80 96 (omega arith))
      ∙ sym (ap (λ (r : Row). r.rec.file) (row_read m i inside))

-- ---- changed: a number of w bytes, a bytes from the record's start, and the mark

-- records that agree but for one number
module _ (l n : List ℕ) (v : ℕ) where
  rec-links : ((k e : ℕ) → e ≤ 112 → (k < 16 → e ≤ 14) → part n k e ≡ part l k e) → le_at n 14 2 ≡ v → record_of n ≡ with_links (record_of l) v
  unfolding record_of time_of le_at
  rec-links same is = λ x. record {
    size = le_of (same 0 8 (omega arith) (λ h. omega arith) x);
    kind = le_of (same 8 12 (omega arith) (λ h. omega arith) x);
    mode = le_of (same 12 14 (omega arith) (λ h. omega arith) x);
    nlinks = is x;
    blocks = le_of (same 16 20 (omega arith) (λ h. absurd (omega arith)) x);
    uid = le_of (same 20 24 (omega arith) (λ h. absurd (omega arith)) x);
    gid = le_of (same 24 28 (omega arith) (λ h. absurd (omega arith)) x);
    pad = le_of (same 28 32 (omega arith) (λ h. absurd (omega arith)) x);
    atime = record { sec = signed (le_of (same 32 40 (omega arith) (λ h. absurd (omega arith)) x)); nsec = signed (le_of (same 40 48 (omega arith) (λ h. absurd (omega arith)) x)) };
    mtime = record { sec = signed (le_of (same 48 56 (omega arith) (λ h. absurd (omega arith)) x)); nsec = signed (le_of (same 56 64 (omega arith) (λ h. absurd (omega arith)) x)) };
    ctime = record { sec = signed (le_of (same 64 72 (omega arith) (λ h. absurd (omega arith)) x)); nsec = signed (le_of (same 72 80 (omega arith) (λ h. absurd (omega arith)) x)) };
    file = same 80 96 (omega arith) (λ h. absurd (omega arith)) x;
    mac = same 96 112 (omega arith) (λ h. absurd (omega arith)) x;
  }

  rec-blocks : ((k e : ℕ) → e ≤ 112 → (k < 20 → e ≤ 16) → part n k e ≡ part l k e) → le_at n 16 4 ≡ v → record_of n ≡ with_blocks (record_of l) v
  unfolding record_of time_of le_at
  rec-blocks same is = λ x. record {
    size = le_of (same 0 8 (omega arith) (λ h. omega arith) x);
    kind = le_of (same 8 12 (omega arith) (λ h. omega arith) x);
    mode = le_of (same 12 14 (omega arith) (λ h. omega arith) x);
    nlinks = le_of (same 14 16 (omega arith) (λ h. omega arith) x);
    blocks = is x;
    uid = le_of (same 20 24 (omega arith) (λ h. absurd (omega arith)) x);
    gid = le_of (same 24 28 (omega arith) (λ h. absurd (omega arith)) x);
    pad = le_of (same 28 32 (omega arith) (λ h. absurd (omega arith)) x);
    atime = record { sec = signed (le_of (same 32 40 (omega arith) (λ h. absurd (omega arith)) x)); nsec = signed (le_of (same 40 48 (omega arith) (λ h. absurd (omega arith)) x)) };
    mtime = record { sec = signed (le_of (same 48 56 (omega arith) (λ h. absurd (omega arith)) x)); nsec = signed (le_of (same 56 64 (omega arith) (λ h. absurd (omega arith)) x)) };
    ctime = record { sec = signed (le_of (same 64 72 (omega arith) (λ h. absurd (omega arith)) x)); nsec = signed (le_of (same 72 80 (omega arith) (λ h. absurd (omega arith)) x)) };
    file = same 80 96 (omega arith) (λ h. absurd (omega arith)) x;
    mac = same 96 112 (omega arith) (λ h. absurd (omega arith)) x;
  }

module _ (m : List ℕ) (i a w v : ℕ) (W : Whole m) (inside : i < 34) (room : a + w ≤ 112) (fits : v < 256 ^ w) where
  abbrev put : List ℕ
  put = le_put m (117 * i + (5 + a)) w v

  wide : length (le_bytes w v) ≡ w
  wide = length-le_bytes w v

  put_fit : 117 * i + (5 + a) + length (le_bytes w v) ≤ length m
  put_fit = omega (arith, wide, W.size)

  put-size : length put ≡ length m
  unfolding le_put
  put-size = length-paste m (117 * i + (5 + a)) (le_bytes w v) put_fit

  abbrev marked : List ℕ
  marked = set put (117 * i + 4) 1

  as-paste : marked ≡ paste put (117 * i + 4) (1 ∷ [])
  as-paste = set-paste put (117 * i + 4) 1 (omega (arith, put-size, W.size))

  mark-fit : 117 * i + 4 + length {A = ℕ} (1 ∷ []) ≤ length put
  mark-fit = omega (arith, put-size, W.size)

  -- what lies off the mark
  off-mark : (t u : ℕ) → (t < 117 * i + 5 → u ≤ 117 * i + 4) → part marked t u ≡ part put t u
  off-mark t u h = ap (λ (l : List ℕ). part l t u) as-paste ∙ part-paste-other put (117 * i + 4) (1 ∷ []) mark-fit t u (λ k. h (omega arith))

  -- what lies off the number
  off-number : (t u : ℕ) → (t < 117 * i + (5 + (a + w)) → u ≤ 117 * i + (5 + a)) → part put t u ≡ part m t u
  unfolding le_put
  off-number t u h = part-paste-other m (117 * i + (5 + a)) (le_bytes w v) put_fit t u (λ k. h (omega (arith, wide)))

  beside : (t u : ℕ) → (t < 117 * i + 117 → u ≤ 117 * i) → part marked t u ≡ part m t u
  beside t u h = off-mark t u (λ k. let q = h (omega arith) in omega (arith, q)) ∙ off-number t u (λ k. let q = h (omega arith) in omega (arith, q))

  abbrev own : List ℕ → List ℕ
  own l = part (part l (117 * i) (117 * i + 117)) 5 117

  -- the record's other bytes
  rec-same : (k e : ℕ) → e ≤ 112 → (k < a + w → e ≤ a) → part (own marked) k e ≡ part (own m) k e
  rec-same k e l h =
      rec-part marked i k e l
      ∙ off-mark (117 * i + (5 + k)) (117 * i + (5 + e)) (λ q. absurd (omega arith))
      ∙ off-number (117 * i + (5 + k)) (117 * i + (5 + e)) (λ q. let z = h (omega arith) in omega (arith, z))
      ∙ sym (rec-part m i k e l)

  -- the number
  rec-is : le_at (own marked) a w ≡ v
  unfolding le_at le_put
  rec-is =
      ap le_of (rec-part marked i a (a + w) room ∙ off-mark (117 * i + (5 + a)) (117 * i + (5 + (a + w))) (λ q. absurd (omega arith)))
      ∙ ap (λ (e : ℕ). le_of (part put (117 * i + (5 + a)) e)) (let q : 117 * i + (5 + (a + w)) ≡ 117 * i + (5 + a) + w = omega arith in q)
      ∙ le_at-le_put-fits m (117 * i + (5 + a)) w v (omega (arith, W.size)) fits

  id_same : le_at (part marked (117 * i) (117 * i + 117)) 0 4 ≡ le_at (part m (117 * i) (117 * i + 117)) 0 4
  unfolding le_at
  id_same =
      ap le_of
      (part-part marked (117 * i) (117 * i + 117) 0 4 (omega arith)
      ∙ off-mark (117 * i + 0) (117 * i + 4) (λ q. omega arith)
      ∙ off-number (117 * i + 0) (117 * i + 4) (λ q. omega arith)
      ∙ sym (part-part m (117 * i) (117 * i + 117) 0 4 (omega arith)))

  mark-is : not (eqb (get_or (part marked (117 * i) (117 * i + 117)) 4 0) 0) ≡ true
  mark-is =
      ap (λ (n : ℕ). not (eqb n 0)) (get_d_part marked (117 * i) (117 * i + 117) 4 (omega arith) ∙ get_or-set_same put (117 * i + 4) 1 0 (omega (arith, put-size, W.size)))

  -- row i's record became f of what it was
  changed : (f : DiskINode → DiskINode) → record_of (own marked) ≡ f (record_of (own m)) → (n : List ℕ) → n ≡ marked → Tabled m n (take_row (table_in m) i (row_at (table_in m) i).id (f (row_at (table_in m) i).rec) true)
  unfolding row_from
  changed f e n q =
      rw q (tabled m marked W.size (ap length as-paste ∙ length-paste put (117 * i + 4) (1 ∷ []) mark-fit ∙ put-size ∙ W.size)
      (beside 4402 memory_size (λ l. absurd (omega arith)))
      _ W (row-changed m marked i _ inside beside row))
    where
      row : row_from (part marked (117 * i) (117 * i + 117)) ≡ record { id = (row_at (table_in m) i).id; dirty = true; rec = f (row_at (table_in m) i).rec }
      row =
          let r = row_read m i inside in
          (λ x. record { id = id_same x; dirty = mark-is x; rec = e x }) ∙ (λ x. record { id = (sym r x).id; dirty = true; rec = f (sym r x).rec })

-- ---- the two numbers

pub links-stored : (m n : List ℕ) (i v : ℕ) → Whole m → i < 34 → v < 65536 → n ≡ set (le_put m (117 * i + 19) 2 v) (117 * i + 4) 1
    → Tabled m n (take_row (table_in m) i (row_at (table_in m) i).id (with_links (row_at (table_in m) i).rec v) true)
links-stored m n i v W k b e =
    changed m i 14 2 v W k (omega arith) b (λ r. with_links r v) (rec-links _ _ v (rec-same m i 14 2 v W k (omega arith) b) (rec-is m i 14 2 v W k (omega arith) b)) n e

pub blocks-stored : (m n : List ℕ) (i v : ℕ) → Whole m → i < 34 → v < 4294967296 → n ≡ set (le_put m (117 * i + 21) 4 v) (117 * i + 4) 1
    → Tabled m n (take_row (table_in m) i (row_at (table_in m) i).id (with_blocks (row_at (table_in m) i).rec v) true)
blocks-stored m n i v W k b e =
    changed m i 16 4 v W k (omega arith) b (λ r. with_blocks r v) (rec-blocks _ _ v (rec-same m i 16 4 v W k (omega arith) b) (rec-is m i 16 4 v W k (omega arith) b)) n e
