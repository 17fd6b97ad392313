-- Room for the records: what is counted is what the stores would take.
use mathlib.Core.Path.{◌≡◌, refl, sym, ◌∙◌, ap, subst}
use mathlib.Core.Bool.{Bool, true, false, not, ◌||◌}
use mathlib.Core.List.{List}
use mathlib.Core.Logic.{⊎_elim}
use Prim.Native.Nat.{ℕ, ◌+◌, ◌*◌, ◌-◌, ◌/◌, ◌≤◌, ◌<◌}
use native.Mathlib.Nat.{zero-add}
use native.Mathlib.Omega.{arith}
use lib.ListN.{length}
use lib.Dec.{leb}
use borrow.Author.Tests.{lt-ltb, le-ltb, le-leb, lt-leb}
use Rattle.base.specs.Count.{sum_to, count_to, bit}
use Rattle.base.specs.Out.{done, bind}
use Rattle.base.proofs.Bools.{and-false, or-second}
use Rattle.base.proofs.Counts.{count_to-cong}
use Rattle.base.proofs.Finds.{count_to-suc}
use Rattle.base.proofs.Lists.{length_part}
use Rattle.base.proofs.Numbers.{lt-or-le}
use Rattle.base.proofs.Sames.{or_no}
use Rattle.le.specs.Le.{Bytes}
use Rattle.structs.specs.Layout.{record_bytes}
use Rattle.table.specs.Table.{row_at, with_dirty}
use Rattle.arena.specs.Blocks.{blocks}
use Rattle.arena.specs.Places.{data_of}
use Rattle.overlay.specs.View.{view, Empty}
use Rattle.files.specs.Read.{there, present}
use Rattle.files.specs.Store.{longest, lo, hi, touched, put_file}
use Rattle.files_laws.specs.Laws.{touches, lacking, Put}
use Rattle.files_laws.proofs.Put.{put-done, put-missing, put-far, put_full}
use Rattle.sefs.specs.Meta.{meta_file}
use Rattle.sefs.specs.Nodes.{store_row, sync_row}
use Rattle.sefs.specs.State.{with_arena, with_table}
use Rattle.mem.specs.Mem.{table_in, Tabled, Whole, memory_size}
use Rattle.nodes.proofs.Bytes.{row-bytes}
use Rattle.calls_sync.specs.Sync.{Judged, can, cannot, is_lacking, needed, Counted, Left}
use Rattle.mem.specs.State.{fs_at}

-- ---- one block

pub lacks-below : (a : List ℕ) (from q : ℕ) → q < from → 0 ≡ bit (is_lacking a from q)
lacks-below a from q l = rw (lt-leb from q l)

module _ (a w : List ℕ) (E : Empty a w 10) (from q k : ℕ) (e : k ≡ data_of (view a w) meta_file q) where
  place : k ≡ data_of a meta_file q
  place = e ∙ ap (λ (x : List ℕ). data_of x meta_file q) E.is

  pub lacks-there : k < length a / 512 → 0 ≡ bit (is_lacking a from q)
  unfolding present
  lacks-there l = rw (lt-ltb (data_of a meta_file q) (blocks a) (omega (arith, place)), and-false (leb from q))

  pub lacks-gone : from ≤ q → length a / 512 ≤ k → 1 ≡ bit (is_lacking a from q)
  unfolding present
  lacks-gone h l = rw (le-ltb (data_of a meta_file q) (blocks a) (omega (arith, place)), le-leb from q h)

-- ---- the blocks of a record

module _ (a : List ℕ) (from pos : ℕ) where
  abbrev lack-at : ℕ → Bool
  lack-at i = is_lacking a from (pos / 480 + i)

  count-one : count_to lack-at 1 ≡ bit (is_lacking a from (pos / 480))
  unfolding count_to sum_to
  count-one = let q : pos / 480 + 0 ≡ pos / 480 = omega arith in zero-add (bit (lack-at 0)) ∙ ap (λ (x : ℕ). bit (is_lacking a from x)) q

  touched-is : touched pos 112 ≡ (pos + 111) / 480 + 1 - pos / 480
  unfolding touched
  touched-is = refl

  -- it touches one block
  pub needs-one : (n : ℕ) → n ≡ bit (is_lacking a from (pos / 480)) → pos / 480 ≡ (pos + 111) / 480 → n ≡ needed a from pos
  unfolding needed
  needs-one n e q =
      let t : touched pos 112 ≡ 1 = touched-is ∙ omega arith in
      e ∙ sym (ap (count_to lack-at) t ∙ count-one)

  -- or two
  pub needs_two : (n m : ℕ) → n ≡ bit (is_lacking a from (pos / 480)) → m ≡ bit (is_lacking a from ((pos + 111) / 480)) → (pos / 480 ≡ (pos + 111) / 480 → ⊥) → n + m ≡ needed a from pos
  unfolding needed
  needs_two n m e f d =
      let k : pos / 480 + 1 ≡ (pos + 111) / 480 = omega arith in
      let t : touched pos 112 ≡ 2 = touched-is ∙ omega arith in
      let g : m ≡ bit (lack-at 1) = f ∙ sym (ap (λ (x : ℕ). bit (is_lacking a from x)) k) in
      sym (ap (count_to lack-at) t ∙ count_to-suc lack-at 1 ∙ omega (arith, count-one, e, g))

-- ---- the next record

module _ (src : List ℕ) {a d : List ℕ} {low from free id : ℕ} (C : Counted a d low from free) (l : low < id) (s : length src ≡ 112) where
  same_block : (q : ℕ) → 128 * id / 480 ≤ q → not (present d meta_file q) ≡ is_lacking a from q
  same_block q g =
      ⊎_elim
      (λ (b : q < from). let e : q + 1 ≡ from = omega (arith, C.near) in rw (C.last q e, lt-leb from q b))
      (λ h. rw (C.rest q h, le-leb from q h))
      (lt-or-le q from)

  lack-is : lacking d meta_file (128 * id) (length src) ≡ needed a from (128 * id)
  unfolding lacking needed
  lack-is =
      ap (lacking d meta_file (128 * id)) s
      ∙ count_to-cong (λ i. not (present d meta_file (128 * id / 480 + i))) (λ i. is_lacking a from (128 * id / 480 + i)) (touched (128 * id) 112) (λ j _. same_block (128 * id / 480 + j) (omega arith))

  touches-not : (q : ℕ) → (128 * id + 111) / 480 + 1 ≤ q → touches (128 * id) (length src) q ≡ false
  touches-not q g = le-ltb (lo (128 * id) q) (hi (128 * id) (length src) q) (omega arith)

  touches-last : (q : ℕ) → q + 1 ≡ (128 * id + 111) / 480 + 1 → touches (128 * id) (length src) q ≡ true
  touches-last q e = lt-ltb (lo (128 * id) q) (hi (128 * id) (length src) q) (omega arith)

  counted-put : {e : List ℕ} → Put d meta_file (128 * id) src e → Counted a e id ((128 * id + 111) / 480 + 1) (free - needed a from (128 * id))
  counted-put P = record {
    head = P.exists ∙ sym P.was ∙ C.head;
    room = omega (arith, P.free, lack-is, C.room);
    rest = λ q g. P.block q ∙ ap (λ (t : Bool). present d meta_file q || t) (touches-not q g) ∙ or_no (present d meta_file q) ∙ C.rest q (omega (arith, C.near));
    last = λ q e. P.block q ∙ or-second (present d meta_file q) (touches-last q e);
    near = omega arith;
  }

-- whether the record of that id can be stored: the metadata file is there or not, and x is the id as an index
module _ (a w : List ℕ) (E : Empty a w 10) (b : Bool) (t : b ≡ there (view a w) meta_file) (id from free : ℕ) where
  head-is : there a meta_file ≡ b
  head-is = sym (t ∙ ap (λ (x : List ℕ). there x meta_file) E.is)

  pub room-missing : {P : List ℕ → Type 0} → b ≡ false → (d src : List ℕ) (low : ℕ) → Counted a d low from free → low < id → length src ≡ 112 → Judged (put_file d meta_file (128 * id) src) P 19
  room-missing n d src low C l s = cannot {r = 19} (omega arith) (put-missing d meta_file (128 * id) src (C.head ∙ head-is ∙ n))

  module _ (y : b ≡ true) (x : ℕ) (q : x ≡ id) where
    pub room-far : {P : List ℕ → Type 0} → longest < 128 * x + 112 → (d src : List ℕ) (low : ℕ) → Counted a d low from free → low < id → length src ≡ 112 → Judged (put_file d meta_file (128 * id) src) P 17
    room-far g d src low C l s = cannot {r = 17} (omega arith) (put-far d meta_file (128 * id) src (C.head ∙ head-is ∙ y) (omega arith))

    module _ (n : ℕ) (e : n ≡ needed a from (128 * x)) where
      needs-is : n ≡ needed a from (128 * id)
      needs-is = e ∙ ap (λ (z : ℕ). needed a from (128 * z)) q

      pub room-full : {P : List ℕ → Type 0} → free < n → (d src : List ℕ) (low : ℕ) → Counted a d low from free → low < id → length src ≡ 112 → Judged (put_file d meta_file (128 * id) src) P 17
      room-full g d src low C l s =
          cannot {r = 17} (omega arith) (put_full d meta_file (128 * id) src (C.head ∙ head-is ∙ y) (omega (arith, C.room, lack-is src C l s, needs-is)))

      pub room_fits : (k m : ℕ) → 128 * x + 112 ≤ longest → n ≤ free → k ≡ (128 * x + 111) / 480 + 1 → m ≡ free - n → (d src : List ℕ) (low : ℕ) → Counted a d low from free → low < id → length src ≡ 112 → Judged (put_file d meta_file (128 * id) src) (λ z. Counted a z id k m) 0
      room_fits k m g h ek em d src low C l s =
          let p = put-done d meta_file (128 * id) src (C.head ∙ head-is ∙ y) (omega arith) (omega (arith, C.room, lack-is src C l s, needs-is)) in
          rw (ek, em, q, needs-is) (can p.1 (counted-put src C l s p.2))

-- ---- row i's turn

pub try-clean : (a m : List ℕ) (i from free : ℕ) → Whole m → (row_at (table_in m) i).dirty ≡ false → (d : List ℕ) (low : ℕ) → Counted a d low from free → low < (row_at (table_in m) i).id → Judged (sync_row (fs_at d m) i) (Left a m (row_at (table_in m) i).id from free) 0
unfolding sync_row
try-clean a m i from free w e d low C l =
    can {x = fs_at d m} (rw e)
    (record {
      arena = d;
      is = refl;
      whole = w;
      counted = record { head = C.head; room = C.room; rest = C.rest; last = C.last; near = omega (arith, C.near) };
    })

module _ (a m n : List ℕ) (i from free k x id r : ℕ) (b : Bytes m) (size : length m ≡ memory_size) (h : i < 34) (q : id ≡ (row_at (table_in m) i).id)
    (y : (row_at (table_in m) i).dirty ≡ true) (T : Tabled m n (with_dirty (table_in m) i false))
    (g : (d src : List ℕ) (low : ℕ) → Counted a d low from free → low < id → length src ≡ 112 → Judged (put_file d meta_file (128 * id) src) (λ z. Counted a z id k x) r) where
  src : List ℕ
  src = record_bytes (row_at (table_in m) i).rec

  src-size : length src ≡ 112
  unfolding src
  src-size = ap length (row-bytes m i b size h) ∙ length_part m (117 * i + 5) (117 * i + 5 + 112) (omega arith) (omega arith) ∙ omega arith

  row_is : (d : List ℕ) → sync_row (fs_at d m) i ≡ bind (put_file d meta_file (128 * (row_at (table_in m) i).id) src) (λ e. done (with_table (with_arena (fs_at d m) e) (with_dirty (table_in m) i false)))
  unfolding sync_row store_row src
  row_is d = rw y

  tabled-is : (d e : List ℕ) → with_table (with_arena (fs_at d m) e) (with_dirty (table_in m) i false) ≡ fs_at e n
  tabled-is d e = sym (λ z. record { arena = e; table = T.table z; meta = T.meta z })

  pub try-dirty : (d : List ℕ) (low : ℕ) → Counted a d low from free → low < (row_at (table_in m) i).id → Judged (sync_row (fs_at d m) i) (Left a n (row_at (table_in m) i).id k x) r
  try-dirty d low C l = rw (row_is d) (go (subst (λ (z : ℕ). Judged (put_file d meta_file (128 * z) src) (λ e. Counted a e z k x) r) q (g d src low C (omega arith) src-size)))
    where
      go : {v : ℕ} → Judged (put_file d meta_file (128 * (row_at (table_in m) i).id) src) (λ e. Counted a e (row_at (table_in m) i).id k x) v
          → Judged (bind (put_file d meta_file (128 * (row_at (table_in m) i).id) src) (λ e. done (with_table (with_arena (fs_at d m) e) (with_dirty (table_in m) i false)))) (Left a n (row_at (table_in m) i).id k x) v
      go (can {x = e} p c) = can {x = fs_at e n} (rw p (ap done (tabled-is d e))) (record { arena = e; is = refl; whole = T.whole; counted = c })
      go (cannot z p) = cannot z (rw p)
