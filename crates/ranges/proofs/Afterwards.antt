-- What is read after each mode, through the handle that it was called by and through others.
use mathlib.Core.Path.{◌≡◌, refl, sym, ap, ◌∙◌, subst}
use mathlib.Core.Bool.{Bool, true, false}
use mathlib.Core.List.{List}
use mathlib.Core.Logic.{◌≢◌, ◌⊎◌, inl, inr, ⊎_elim}
use Prim.Native.Nat.{ℕ, ◌+◌, ◌-◌, ◌≤◌, ◌<◌, max}
use native.Mathlib.Omega.{arith}
use lib.ListN.{replicate}
use Rattle.base.specs.Out.{Out, done, bind}
use Rattle.base.specs.Parts.{tab}
use Rattle.std.specs.Prelude.{Some}
use Rattle.base.proofs.Numbers.{lt-or-le}
use Rattle.base.proofs.Lists.{tab-cong}
use Rattle.le.specs.Le.{Bytes}
use Rattle.table.specs.declared.Table.{Table}
use Rattle.table.specs.declared.Row.{Row}
use Rattle.table.specs.declared.Handle.{Handle}
use Rattle.table.specs.Table.{row_at, live_row}
use Rattle.arena.specs.Fields.{File}
use Rattle.files.specs.Read.{there, byte_at}
use Rattle.sefs.specs.Nodes.{node_file}
use Rattle.sefs.specs.Ask.{start}
use Rattle.sefs.specs.Create.{After, after}
use Rattle.sefs.specs.Contents.{has_contents, read_count, read_bytes, call_read}
use Rattle.sefs_laws.specs.Contents.{file_at, size_at, Only}
use Rattle.sefs_laws.proofs.Contents.{reads_at, reads, reads_kept, count-all, count_same, tab-zero, one-row, live_same, size-after, file-after, asked-after, reads-after}
use Rattle.ranges.specs.Ranges.{call_fallocate}
use Rattle.ranges.specs.Laws.{Inserted, Collapsed, Zeroed, Punched, PunchIsZeroKeep, Reserved, InsertReads, ReadInserted, CollapseReads, ReadCollapsed, ZeroReads, ReadZeroed, PunchReads, ReadPunched, Back, GivesBack, ReadOthers}
use Rattle.ranges.specs.declared.FallocateMode.{FallocateMode}
use Rattle.ranges.specs.declared.FallocateMode.TheVariants.{Allocate, PunchHoleKeepSize, ZeroRange, ZeroRangeKeepSize, CollapseRange, InsertRange, Unknown}
use Rattle.ranges.proofs.Asks.{AskedFile}
use Rattle.ranges.proofs.Modes.{punch-is-zero-keep, done-law, inserts, collapses, zeroes, punches, allocates, insert-starts, collapse-ends, never-fits}

module _ {a : List ℕ} {t : Table} {i n : ℕ} {dirty : Bool} {x : After} (O : Only a t i n dirty x) (w : ℕ) (h : Handle) (A : AskedFile a t w h i) where
  -- what is read at a place now is what was read at an old place
  reads_as : (at old room : ℕ) → read_count n at room ≡ read_count (size_at t i) old room
      → ((k : ℕ) → k < read_count (size_at t i) old room → byte_at x.arena (file_at t i) (at + k) ≡ byte_at a (file_at t i) (old + k))
      → call_read x.arena x.table w h at room ≡ call_read a t w h old room
  reads_as at old room e b =
      reads-after O w h at room A.asked
      ∙ ap done (ap (tab (byte_at x.arena (file_at t i)) at) e ∙ tab-cong (byte_at x.arena (file_at t i)) (byte_at a (file_at t i)) at old (read_count (size_at t i) old room) b)
      ∙ sym (reads a t w h i old room A.asked O.was)

  -- another file reads as it did
  reads-else : (v : ℕ) (g : Handle) (j at room : ℕ) → live_row t v g ≡ Some j → file_at t i ≢ file_at t j → call_read x.arena x.table v g at room ≡ call_read a t v g at room
  reads-else v g j at room l d =
      reads_at x.arena x.table v g j at room (asked-after O w h A.asked).admits (live_same t x.table v g O.holds ∙ l)
      ∙ ap (λ (r : Row). bind (has_contents r.rec) (λ _. read_bytes x.arena (node_file r.rec) at (read_count r.rec.size at room))) (O.rows j (λ z. d (ap (file_at t) (sym z))))
      ∙ ap (λ (o : Out (List ℕ)). bind (has_contents (row_at t j).rec) (λ _. o)) (reads_kept a x.arena (file_at t j) at (read_count (size_at t j) at room) (O.files (file_at t j) d))
      ∙ sym (reads_at a t v g j at room A.asked.admits l)

-- ---- insert

insert-reads : (a : List ℕ) (t : Table) (w : ℕ) (h : Handle) (i from len : ℕ) (x : After) → AskedFile a t w h i → from < size_at t i → Inserted a t i from len x → InsertReads a t w h from len x
insert-reads a t w h i from len x A l I = record {
  below = λ at room m. reads_as I.only w h A at at room (omega arith) (λ k g. I.below (at + k) (omega arith));
  hole = λ at room m n.
      let e : read_count (size_at t i + len) at room ≡ room = omega arith in
      reads-after I.only w h at room A.asked
      ∙ ap done (ap (tab (byte_at x.arena (file_at t i)) at) e ∙ tab-zero (byte_at x.arena (file_at t i)) at room (λ k g. I.hole (at + k) (omega arith) (omega arith)));
  moved = λ at room m. reads_as I.only w h A (at + len) at room (omega arith)
      (λ k g. ap (byte_at x.arena (file_at t i)) (let q : at + len + k ≡ at + k + len = omega arith in q) ∙ I.moved (at + k) (omega arith) (omega arith));
}

pub read-inserted : ReadInserted
unfolding ReadInserted
read-inserted a t w h from len x b e =
    let D = done-law InsertRange Inserted inserts a t w h from len x b e in
    insert-reads a t w h D.0 from len x D.1 (insert-starts (size_at t D.0) from len D.2) D.3

-- ---- collapse

count-in : (n at room k : ℕ) → k < read_count n at room → at + k < n
count-in n at room k l = omega arith

count-moved : (n m len at room : ℕ) → m + len ≡ n → read_count m at room ≡ read_count n (at + len) room
count-moved n m len at room e = subst (λ (x : ℕ). read_count m at room ≡ read_count x (at + len) room) e (omega arith)

count-below : (m n at room : ℕ) → at + room ≤ m → m ≤ n → read_count m at room ≡ read_count n at room
count-below m n at room l k = omega arith

collapse-reads : (a : List ℕ) (t : Table) (w : ℕ) (h : Handle) (i from len : ℕ) (x : After) → AskedFile a t w h i → from + len < size_at t i
    → Collapsed a t i from len x → CollapseReads a t w h from len x
collapse-reads a t w h i from len x A l C = record {
  below = λ at room m. reads_as C.only w h A at at room (count-below (size_at t i - len) (size_at t i) at room (omega arith) (omega arith)) (λ k g. C.below (at + k) (omega arith));
  moved = λ at room m. reads_as C.only w h A at (at + len) room (count-moved (size_at t i) (size_at t i - len) len at room (omega arith))
      (λ k g. let y : at + len + k < size_at t i = count-in (size_at t i) (at + len) room k g in
      C.moved (at + k) (omega arith) (below-back (size_at t i) len (at + k) (omega arith)) ∙ ap (byte_at a (file_at t i)) (let q : at + k + len ≡ at + len + k = omega arith in q));
}
  where
    below-back : (n len p : ℕ) → p + len < n → p < n - len
    below-back n len p l = omega arith

pub read-collapsed : ReadCollapsed
unfolding ReadCollapsed
read-collapsed a t w h from len x b e =
    let D = done-law CollapseRange Collapsed collapses a t w h from len x b e in
    collapse-reads a t w h D.0 from len x D.1 (collapse-ends (size_at t D.0) from len D.2) D.3

-- ---- collapse after insert

module _ (a : List ℕ) (t : Table) (w : ℕ) (h : Handle) (i from len : ℕ) (x y : After) (A : AskedFile a t w h i) (B : AskedFile x.arena x.table w h i)
    (I : Inserted a t i from len x) (C : Collapsed x.arena x.table i from len y) where
  size_back : size_at x.table i - len ≡ size_at t i
  size_back = let e = size-after I.only in omega arith

  byte-back : (p : ℕ) → p < size_at t i → byte_at y.arena (file_at x.table i) p ≡ byte_at a (file_at t i) p
  byte-back p l =
      ⊎_elim
      (λ k. C.below p k ∙ ap (λ (f : File). byte_at x.arena f p) (file-after I.only) ∙ I.below p k)
      (λ k. C.moved p k (omega (arith, size_back)) ∙ ap (λ (f : File). byte_at x.arena f (p + len)) (file-after I.only) ∙ I.moved p k l)
      (lt-or-le p from)

  back-reads : Back a t w h y
  back-reads = record {
    reads = λ at room.
        reads-after C.only w h at room B.asked
        ∙ ap done (ap (λ (n : ℕ). tab (byte_at y.arena (file_at x.table i)) at (read_count n at room)) size_back
        ∙ tab-cong (byte_at y.arena (file_at x.table i)) (byte_at a (file_at t i)) at at (read_count (size_at t i) at room) (λ k g. byte-back (at + k) (omega arith)))
        ∙ sym (reads a t w h i at room A.asked I.only.was);
    size = λ j l. subst (λ (k : ℕ). size_at y.table k ≡ size_at t k) (one-row t w h i j A.asked.owns.live l) (size-after C.only ∙ size_back);
  }

pub gives_back : GivesBack
unfolding GivesBack
gives_back a t w h from len x y b e f =
    let D = done-law InsertRange Inserted inserts a t w h from len x b e in
    let E = done-law CollapseRange Collapsed collapses x.arena x.table w h from len y D.3.only.bytes f in
    let q : E.0 ≡ D.0 = one-row x.table w h E.0 D.0 E.1.asked.owns.live (asked-after D.3.only w h D.1.asked).owns.live in
    back-reads a t w h D.0 from len x y D.1 (subst (AskedFile x.arena x.table w h) q E.1) D.3 (subst (λ (j : ℕ). Collapsed x.arena x.table j from len y) q E.3)

-- ---- zero range and punched holes

-- zeros read
zeros-read : (g : ℕ → ℕ) (at n m : ℕ) → n ≡ m → ((k : ℕ) → k < m → g (at + k) ≡ 0) → tab g at n ≡ replicate m 0
zeros-read g at n m e z = ap (tab g at) e ∙ tab-zero g at m z

count_room : (n at room k : ℕ) → k < read_count n at room → k < room
count_room n at room k l = omega arith

zero-reads : (a : List ℕ) (t : Table) (w : ℕ) (h : Handle) (i from len : ℕ) (x : After) → AskedFile a t w h i → there a (file_at t i) ≡ true → Zeroed a t i from len x → ZeroReads a t w h i from len x
zero-reads a t w h i from len x A y Z = record {
  inside = λ at room l m.
      reads-after (Z.only y) w h at room A.asked
      ∙ ap done
      (zeros-read (byte_at x.arena (file_at t i)) at (read_count (max (size_at t i) (from + len)) at room) room (count-all (max (size_at t i) (from + len)) at room (omega arith))
      (λ k g. Z.inside (at + k) (omega arith) (omega arith)));
  outside = λ at room out low. reads_as (Z.only y) w h A at at room (count_same (size_at t i) (from + len) at room low)
      (λ k g. let c : at + k < size_at t i = count-in (size_at t i) at room k g in
      Z.outside (at + k) (out k (count_room (size_at t i) at room k g)) (omega arith));
}

pub read-zeroed : ReadZeroed
unfolding ReadZeroed
read-zeroed a t w h i from len x b l y e =
    let D = done-law ZeroRange Zeroed zeroes a t w h from len x b e in
    let q : D.0 ≡ i = one-row t w h D.0 i D.1.asked.owns.live l in
    zero-reads a t w h i from len x (subst (AskedFile a t w h) q D.1) y (subst (λ (j : ℕ). Zeroed a t j from len x) q D.3)

punch-reads : (a : List ℕ) (t : Table) (w : ℕ) (h : Handle) (i from len : ℕ) (x : After) → AskedFile a t w h i → there a (file_at t i) ≡ true
    → Punched a t i from len x → PunchReads a t w h i from len x
punch-reads a t w h i from len x A y P = record {
  inside = λ at room l m.
      reads-after (P.only y) w h at room A.asked
      ∙ ap done (zeros-read (byte_at x.arena (file_at t i)) at (read_count (size_at t i) at room) (read_count (size_at t i) at room) refl
      (λ k g.
      let c : at + k < size_at t i = count-in (size_at t i) at room k g in
      let r : k < room = count_room (size_at t i) at room k g in
      P.inside (at + k) (in-from at from k l) (in_end at from len room k r m) c));
  outside = λ at room out. reads_as (P.only y) w h A at at room refl
      (λ k g. P.outside (at + k) (inl (out k (count_room (size_at t i) at room k g))));
}
  where
    in-from : (at from k : ℕ) → from ≤ at → from ≤ at + k
    in-from at from k l = omega arith

    in_end : (at from len room k : ℕ) → k < room → at + room ≤ from + len → at + k < from + len
    in_end at from len room k l m = omega arith

pub read-punched : ReadPunched
unfolding ReadPunched
read-punched a t w h i from len x b l y e =
    let D = done-law PunchHoleKeepSize Punched punches a t w h from len x b e in
    let q : D.0 ≡ i = one-row t w h D.0 i D.1.asked.owns.live l in
    punch-reads a t w h i from len x (subst (AskedFile a t w h) q D.1) y (subst (λ (j : ℕ). Punched a t j from len x) q D.3)

-- ---- other files

-- a call that is done changed its row and its file alone, or nothing at all
abbrev pub OnlyOr : List ℕ → Table → ℕ → After → Type 0
OnlyOr a t i x = ((n : ℕ) × (d : Bool) × Only a t i n d x) ⊎ (x ≡ after (start a t))

there-or : {a : List ℕ} {t : Table} {i n : ℕ} {d : Bool} {x : After} → (there a (file_at t i) ≡ true → Only a t i n d x) → (there a (file_at t i) ≡ false → x ≡ after (start a t)) → OnlyOr a t i x
there-or {a} {t} {i} {n} {d} {x} o m = go (there a (file_at t i)) refl
  where
    go : (b : Bool) → there a (file_at t i) ≡ b → OnlyOr a t i x
    go true e = inl (n, d, o e)
    go false e = inr (m e)

punch-or : (a : List ℕ) (t : Table) (w : ℕ) (h : Handle) (from len : ℕ) (x : After) → Bytes a → call_fallocate a t w h PunchHoleKeepSize from len ≡ done x
    → (i : ℕ) × AskedFile a t w h i × OnlyOr a t i x
punch-or a t w h from len x b e = let D = done-law PunchHoleKeepSize Punched punches a t w h from len x b e in (D.0, D.1, there-or D.3.only D.3.missing)

pub only-or : (mode : FallocateMode) (a : List ℕ) (t : Table) (w : ℕ) (h : Handle) (from len : ℕ) (x : After) → Bytes a → call_fallocate a t w h mode from len ≡ done x
    → (i : ℕ) × AskedFile a t w h i × OnlyOr a t i x
unfolding PunchIsZeroKeep
only-or InsertRange a t w h from len x b e = let D = done-law InsertRange Inserted inserts a t w h from len x b e in (D.0, D.1, inl (_, _, D.3.only))
only-or CollapseRange a t w h from len x b e = let D = done-law CollapseRange Collapsed collapses a t w h from len x b e in (D.0, D.1, inl (_, _, D.3.only))
only-or ZeroRange a t w h from len x b e = let D = done-law ZeroRange Zeroed zeroes a t w h from len x b e in (D.0, D.1, there-or D.3.only D.3.missing)
only-or PunchHoleKeepSize a t w h from len x b e = punch-or a t w h from len x b e
only-or ZeroRangeKeepSize a t w h from len x b e = punch-or a t w h from len x b (sym (punch-is-zero-keep a t w h from len) ∙ e)
only-or (Allocate true) a t w h from len x b e = let D = done-law (Allocate true) (Reserved true) (allocates true) a t w h from len x b e in (D.0, D.1, inr (D.3.nothing (inl refl)))
only-or (Allocate false) a t w h from len x b e =
    let D = done-law (Allocate false) (Reserved false) (allocates false) a t w h from len x b e in
    (D.0, D.1, ⊎_elim (λ (l : size_at t D.0 < from + len). inl (_, _, (D.3.grown refl l).only)) (λ l. inr (D.3.nothing (inr l))) (lt-or-le (size_at t D.0) (from + len)))
only-or Unknown a t w h from len x b e = absurd (done-law Unknown (λ _ _ _ _ _ _. ⊥) never-fits a t w h from len x b e).3

pub read-others : ReadOthers
unfolding ReadOthers
read-others mode a t v w h g i j from len x at room b l m d e =
    let D = only-or mode a t w h from len x b e in
    let q : D.0 ≡ i = one-row t w h D.0 i D.1.asked.owns.live l in
    ⊎_elim
    (λ O. reads-else O.2 w h D.1 v g j at room m (subst (λ (k : ℕ). file_at t k ≢ file_at t j) (sym q) d))
    (λ z. ap (λ (y : After). call_read y.arena y.table v g at room) z)
    D.2
