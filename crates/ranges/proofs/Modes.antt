-- What each mode does.
use mathlib.Core.Path.{◌≡◌, refl, sym, ap, ◌∙◌, subst}
use mathlib.Core.Bool.{Bool, true, false, ◌&&◌, ◌||◌}
use mathlib.Core.List.{List}
use mathlib.Core.Logic.{inl, inr, ⊎_elim}
use Prim.Native.Nat.{ℕ, ◌+◌, ◌-◌, ◌≤◌, ◌<◌, min, max}
use native.Mathlib.Omega.{arith}
use lib.Dec.{eqb, ltb}
use borrow.Author.Tests.{lt-ltb, le-ltb, ltb-true, ltb-false, eqb-true}
use Rattle.base.specs.Out.{done, ensure, bind, Ok, went}
use Rattle.base.specs.Search.{pick}
use Rattle.base.proofs.Bools.{and_parts, true-false}
use Rattle.base.proofs.Numbers.{lt-or-le}
use Rattle.base.proofs.Outs.{ok-bind, ok-weaken, ok-done}
use Rattle.le.specs.Le.{Bytes}
use Rattle.table.specs.declared.Table.{Table}
use Rattle.table.specs.declared.Handle.{Handle}
use Rattle.table.specs.Table.{row_at, take_row}
use Rattle.arena.specs.Fields.{File}
use Rattle.files.specs.Read.{byte_at}
use Rattle.files.specs.Store.{cut_file}
use Rattle.files_laws.specs.Laws.{Cut}
use Rattle.files_laws.proofs.Cut.{cut-law}
use Rattle.sefs.specs.State.{Fs}
use Rattle.sefs.specs.Records.{with_size}
use Rattle.sefs.specs.Ask.{start}
use Rattle.sefs.specs.Create.{After, after}
use Rattle.sefs.specs.Contents.{not_too_big, resize_steps}
use Rattle.sefs_laws.specs.Contents.{file_at, size_at}
use Rattle.sefs_laws.proofs.Rows.{Any, any-pick}
use Rattle.sefs_laws.proofs.Contents.{one-row, only-as, cut-resized}
use Rattle.pieces.specs.Pieces.{copy_up, copy_down}
use Rattle.ranges.specs.Ranges.{aligned, fits_mode, grow_steps, zero_steps, punch_steps, zero_range_steps, collapse_steps, insert_steps, mode_steps, call_fallocate}
use Rattle.ranges.specs.Laws.{InMode, Inserted, IsInserted, Collapsed, IsCollapsed, Zeroed, IsZeroed, Punched, IsPunched, PunchIsZeroKeep, Reserved, IsAllocated}
use Rattle.ranges.specs.declared.FallocateMode.{FallocateMode}
use Rattle.ranges.specs.declared.FallocateMode.TheVariants.{Allocate, PunchHoleKeepSize, ZeroRange, ZeroRangeKeepSize, CollapseRange, InsertRange, Unknown}
use Rattle.pieces.proofs.Pieces.{FilledTo, fill-then, Blanked, Copied, zeros_law, copied-still, up-law, down-law}
use Rattle.ranges.proofs.Asks.{AskedFile, fallocate-law, only-filled, only-cut, exact-cut}

-- a test that passed
ensured : (b : Bool) (n : ℕ) → ensure b n ≡ done tt → b ≡ true
ensured true n e = refl
ensured false n e = absurd (let z : ◌≡◌ {A = ℕ} 0 1 = cc in omega arith)

-- what insert and collapse have asked
pub insert-starts : (size from len : ℕ) → fits_mode InsertRange size from len ≡ done tt → from < size
insert-starts size from len e = go (ltb from size && (aligned from && aligned len)) refl e
  where
    go : (b : Bool) → (ltb from size && (aligned from && aligned len)) ≡ b → bind (ensure b 6) (λ _. not_too_big (size + len)) ≡ done tt → from < size
    go true q _ = ltb-true from size (and_parts (ltb from size) (aligned from && aligned len) q).0
    go false q z = absurd (let x : ◌≡◌ {A = ℕ} 0 1 = cc in omega arith)

pub collapse-ends : (size from len : ℕ) → fits_mode CollapseRange size from len ≡ done tt → from + len < size
collapse-ends size from len e =
    ltb-true (from + len) size (and_parts (ltb (from + len) size) (aligned from && aligned len) (ensured (ltb (from + len) size && (aligned from && aligned len)) 6 e)).0

module _ (a : List ℕ) (t : Table) (w : ℕ) (h : Handle) (i from len : ℕ) (bytes-a : Bytes a) (A : AskedFile a t w h i) where
  abbrev f : File
  f = file_at t i

  abbrev size : ℕ
  size = size_at t i

  cuts : (d : List ℕ) (n : ℕ) → Ok (Cut d (file_at t i) n) Any (cut_file d (file_at t i) n)
  cuts d n = ok-weaken (λ e C. C) (λ _ _. tt) (cut-law d f n)

  -- ---- insert

  moved_up : Ok (Copied a f from (from + len) 0 (size - from) (from + len + (size - from))) Any (pick (eqb len 0) (done a) (copy_up a f from (from + len) (size - from)))
  moved_up =
      any-pick (eqb len 0) _ _
      (λ y. let z : len ≡ 0 = eqb-true len 0 y in went (copied-still a f from (from + len) (size - from) (from + len + (size - from)) (omega arith) bytes-a A.asked.admits.whole))
      (λ n. up-law a f from (from + len) (size - from) bytes-a A.asked.admits.whole Any tt (λ _. tt) (λ _. tt) (omega arith))

  inserted : (d e c : List ℕ) → from < size → Copied a f from (from + len) 0 (size - from) (from + len + (size - from)) d → Blanked d f from len (from + len) e
      → (C : Cut e f (size + len) c) → Inserted a t i from len (record { arena = c; table = take_row t i (row_at t i).id (with_size (row_at t i).rec (size + len)) true })
  inserted d e c l M Z C =
      let F : FilledTo a f (from + len + (size - from)) e =
      fill-then a f (from + len + (size - from)) (from + len) (from + len + (size - from)) d e (omega arith) (omega arith) M.filled Z.filled in
      record {
        below = λ p k. C.below p (omega arith) ∙ Z.outside p (inl (omega arith)) ∙ M.outside p (λ y. absurd (omega arith));
        hole = λ p k m. C.below p (omega arith) ∙ Z.inside p k m;
        moved = λ p k m.
            C.below (p + len) (omega arith) ∙ Z.outside (p + len) (inr (omega arith))
            ∙ ap (byte_at d f) (let q : p + len ≡ from + len + (p - from) = omega arith in q)
            ∙ M.inside (p - from) (omega arith) (omega arith)
            ∙ ap (byte_at a f) (let q : from + (p - from) ≡ p = omega arith in q);
        exact = exact-cut a t w h i A _ e F (size + len) c C;
        only = only-cut a t w h i A _ e F (size + len) c C;
      }

  insert-law : from < size → Ok (λ (s : Fs). Inserted a t i from len (after s)) Any (insert_steps (start a t) i from len)
  unfolding insert_steps zero_steps resize_steps
  insert-law l =
      ok-bind moved_up λ d M.
      ok-bind {P = λ (s : Fs). (s.table ≡ t) × Blanked d f from len (from + len) s.arena}
      (ok-bind (zeros_law d f from len M.filled.bytes M.filled.keeps Any tt (λ _. tt)) λ e Z. went (refl, Z)) λ s Z.
      subst (λ (u : Table). Ok (λ (s : Fs). Inserted a t i from len (after s)) Any (resize_steps (record { arena = s.arena; table = u; meta = s.meta }) i ((row_at u i).rec.size + len))) (sym Z.0)
      (ok-bind (cuts s.arena (size + len)) λ c C. went (inserted d s.arena c l M Z.1 C))

  -- ---- collapse

  moved_down : Ok (Copied a f (from + len) from 0 (size - (from + len)) (from + (size - (from + len)))) Any
      (pick (eqb len 0) (done a) (copy_down a f (from + len) from (size - (from + len))))
  moved_down =
      any-pick (eqb len 0) _ _
      (λ y. let z : len ≡ 0 = eqb-true len 0 y in went (copied-still a f (from + len) from (size - (from + len)) (from + (size - (from + len))) (omega arith) bytes-a A.asked.admits.whole))
      (λ n. down-law a f (from + len) from (size - (from + len)) bytes-a A.asked.admits.whole Any tt (λ _. tt) (λ _. tt) (omega arith))

  collapsed : (d c : List ℕ) → from + len < size → Copied a f (from + len) from 0 (size - (from + len)) (from + (size - (from + len))) d
      → (C : Cut d f (size - len) c) → Collapsed a t i from len (record { arena = c; table = take_row t i (row_at t i).id (with_size (row_at t i).rec (size - len)) true })
  collapsed d c l M C = record {
    below = λ p k. C.below p (omega arith) ∙ M.outside p (λ y. absurd (omega arith));
    moved = λ p k m.
        C.below p m
        ∙ ap (byte_at d f) (let q : p ≡ from + (p - from) = omega arith in q)
        ∙ M.inside (p - from) (omega arith) (omega arith)
        ∙ ap (byte_at a f) (let q : from + len + (p - from) ≡ p + len = omega arith in q);
    exact = exact-cut a t w h i A _ d M.filled (size - len) c C;
    only = only-cut a t w h i A _ d M.filled (size - len) c C;
  }

  collapse-law : from + len < size → Ok (λ (s : Fs). Collapsed a t i from len (after s)) Any (collapse_steps (start a t) i from len)
  unfolding collapse_steps resize_steps
  collapse-law l = ok-bind moved_down λ d M. ok-bind (cuts d (size - len)) λ c C. went (collapsed d c l M C)

  -- ---- zero range

  zeroed-grown : (d c : List ℕ) → size < from + len → Blanked a f from len (from + len) d → (C : Cut d f (from + len) c)
      → Zeroed a t i from len (record { arena = c; table = take_row t i (row_at t i).id (with_size (row_at t i).rec (from + len)) true })
  zeroed-grown d c g Z C =
      let m : max size (from + len) ≡ from + len = omega arith in
      let b : (ltb size (from + len) || (row_at t i).dirty) ≡ true = ap (λ (y : Bool). y || (row_at t i).dirty) (lt-ltb size (from + len) g) in
      record {
        inside = λ p k l. C.below p l ∙ Z.inside p k l;
        outside = λ p k l. C.below p (omega arith) ∙ Z.outside p k;
        exact = λ _. exact-cut a t w h i A _ d Z.filled (from + len) c C;
        only = λ _. only-as m b (only-cut a t w h i A _ d Z.filled (from + len) c C);
        missing = λ n. absurd (true-false (sym Z.filled.exists ∙ C.was) n);
      }

  zeroed-within : (d : List ℕ) → from + len ≤ size → Blanked a f from len (from + len) d → Zeroed a t i from len (record { arena = d; table = t })
  zeroed-within d g Z =
      let m : max size (from + len) ≡ size = omega arith in
      let b : (ltb size (from + len) || (row_at t i).dirty) ≡ (row_at t i).dirty = ap (λ (y : Bool). y || (row_at t i).dirty) (le-ltb size (from + len) g) in
      record {
        inside = Z.inside;
        outside = λ p k _. Z.outside p k;
        exact = λ e. omega (arith, e, Z.filled.grew, Z.filled.most);
        only = λ y. only-as m b (only-filled a t w h i A _ d Z.filled y);
        missing = λ n. ap (λ (b : List ℕ). record { arena = b; table = t }) (Z.filled.missing n);
      }

  zero-law : Ok (λ (s : Fs). Zeroed a t i from len (after s)) Any (zero_range_steps (start a t) i from len)
  unfolding zero_range_steps zero_steps grow_steps resize_steps
  zero-law =
      ok-bind {P = λ (s : Fs). (s.table ≡ t) × Blanked a f from len (from + len) s.arena}
      (ok-bind (zeros_law a f from len bytes-a A.asked.admits.whole Any tt (λ _. tt)) λ d Z. went (refl, Z)) λ s Z.
      subst (λ (u : Table). Ok (λ (s : Fs). Zeroed a t i from len (after s)) Any (grow_steps (record { arena = s.arena; table = u; meta = s.meta }) i (from + len))) (sym Z.0)
      (any-pick (ltb size (from + len)) _ _
      (λ y. ok-bind (cuts s.arena (from + len)) λ c C. went (zeroed-grown s.arena c (ltb-true size (from + len) y) Z.1 C))
      (λ n. went (zeroed-within s.arena (ltb-false size (from + len) n) Z.1)))

  -- ---- punch hole

  abbrev lo : ℕ
  lo = min from size

  abbrev most : ℕ
  most = min (from + len) size - min from size

  punched : (d : List ℕ) → Blanked a f lo most (lo + most) d → Punched a t i from len (record { arena = d; table = t })
  punched d Z = record {
    inside = λ p k l m. Z.inside p (omega arith) (omega arith);
    outside = λ p k. Z.outside p (⊎_elim inl (λ y. inr (⊎_elim (λ o. ⊎_elim (λ l. omega arith) (λ l. omega arith) o) (λ l. omega arith) k)) (lt-or-le p (min from size)));
    exact = λ e. omega (arith, e, Z.filled.grew, Z.filled.most);
    table = refl;
    only = λ y. only-filled a t w h i A _ d Z.filled y;
    missing = λ n. ap (λ (b : List ℕ). record { arena = b; table = t }) (Z.filled.missing n);
  }

  punch-law : Ok (λ (s : Fs). Punched a t i from len (after s)) Any (punch_steps (start a t) i from len)
  unfolding punch_steps zero_steps
  punch-law = ok-bind (zeros_law a f lo most bytes-a A.asked.admits.whole Any tt (λ _. tt)) λ d Z. went (punched d Z)

  -- ---- allocate

  allocate-law : (keep : Bool) → Ok (λ (s : Fs). Reserved keep a t i from len (after s)) Any (mode_steps (Allocate keep) (start a t) i from len)
  unfolding grow_steps resize_steps
  allocate-law true = went (record { nothing = λ _. refl; grown = λ k _. absurd (true-false refl k) })
  allocate-law false =
      any-pick (ltb size (from + len)) _ _
      (λ y. ok-bind (cuts a (from + len)) λ c C. let g : size < from + len = ltb-true size (from + len) y in
      went (record { nothing = λ n. absurd (⊎_elim (λ k. true-false k refl) (λ l. omega arith) n); grown = λ _ _. cut-resized a t w h bytes-a i (from + len) c A.asked C }))
      (λ n. went (record { nothing = λ _. refl; grown = λ _ g. absurd (omega (arith, ltb-false size (from + len) n)) }))

-- ---- the laws

-- what a call that is done has done, of its row
pub done-law : (mode : FallocateMode) (P : List ℕ → Table → ℕ → ℕ → ℕ → After → Type 0)
    → ((a : List ℕ) (t : Table) (w : ℕ) (h : Handle) (i from len : ℕ) → Bytes a → AskedFile a t w h i → fits_mode mode (size_at t i) from len ≡ done tt
    → Ok (λ (s : Fs). P a t i from len (after s)) Any (mode_steps mode (start a t) i from len))
    → (a : List ℕ) (t : Table) (w : ℕ) (h : Handle) (from len : ℕ) (x : After) → Bytes a → call_fallocate a t w h mode from len ≡ done x
    → (i : ℕ) × AskedFile a t w h i × (fits_mode mode (size_at t i) from len ≡ done tt) × P a t i from len x
done-law mode P steps a t w h from len x b e = ok-done (subst (Ok _ _) e (fallocate-law a t w h mode from len (λ i y. P a t i from len y) (λ i A fit. steps a t w h i from len b A fit)))

does : (mode : FallocateMode) (P : List ℕ → Table → ℕ → ℕ → ℕ → After → Type 0)
    → ((a : List ℕ) (t : Table) (w : ℕ) (h : Handle) (i from len : ℕ) → Bytes a → AskedFile a t w h i → fits_mode mode (size_at t i) from len ≡ done tt
    → Ok (λ (s : Fs). P a t i from len (after s)) Any (mode_steps mode (start a t) i from len)) → InMode mode P
does mode P steps a t w h i from len x b l e =
    let D = done-law mode P steps a t w h from len x b e in
    subst (λ (j : ℕ). P a t j from len x) (one-row t w h D.0 i D.1.asked.owns.live l) D.3

-- the steps of a mode, where all is asked
pub inserts : (a : List ℕ) (t : Table) (w : ℕ) (h : Handle) (i from len : ℕ) → Bytes a → AskedFile a t w h i → fits_mode InsertRange (size_at t i) from len ≡ done tt
    → Ok (λ (s : Fs). Inserted a t i from len (after s)) Any (mode_steps InsertRange (start a t) i from len)
inserts a t w h i from len b A fit = insert-law a t w h i from len b A (insert-starts (size_at t i) from len fit)

pub collapses : (a : List ℕ) (t : Table) (w : ℕ) (h : Handle) (i from len : ℕ) → Bytes a → AskedFile a t w h i → fits_mode CollapseRange (size_at t i) from len ≡ done tt
    → Ok (λ (s : Fs). Collapsed a t i from len (after s)) Any (mode_steps CollapseRange (start a t) i from len)
collapses a t w h i from len b A fit = collapse-law a t w h i from len b A (collapse-ends (size_at t i) from len fit)

pub zeroes : (a : List ℕ) (t : Table) (w : ℕ) (h : Handle) (i from len : ℕ) → Bytes a → AskedFile a t w h i → fits_mode ZeroRange (size_at t i) from len ≡ done tt
    → Ok (λ (s : Fs). Zeroed a t i from len (after s)) Any (mode_steps ZeroRange (start a t) i from len)
zeroes a t w h i from len b A _ = zero-law a t w h i from len b A

pub punches : (a : List ℕ) (t : Table) (w : ℕ) (h : Handle) (i from len : ℕ) → Bytes a → AskedFile a t w h i → fits_mode PunchHoleKeepSize (size_at t i) from len ≡ done tt
    → Ok (λ (s : Fs). Punched a t i from len (after s)) Any (mode_steps PunchHoleKeepSize (start a t) i from len)
punches a t w h i from len b A _ = punch-law a t w h i from len b A

pub allocates : (keep : Bool) (a : List ℕ) (t : Table) (w : ℕ) (h : Handle) (i from len : ℕ) → Bytes a → AskedFile a t w h i → fits_mode (Allocate keep) (size_at t i) from len ≡ done tt
    → Ok (λ (s : Fs). Reserved keep a t i from len (after s)) Any (mode_steps (Allocate keep) (start a t) i from len)
allocates keep a t w h i from len b A _ = allocate-law a t w h i from len b A keep

-- a number that is no mode gets to no step
pub never-fits : (a : List ℕ) (t : Table) (w : ℕ) (h : Handle) (i from len : ℕ) → Bytes a → AskedFile a t w h i → fits_mode Unknown (size_at t i) from len ≡ done tt
    → Ok (λ (s : Fs). ⊥) Any (mode_steps Unknown (start a t) i from len)
never-fits a t w h i from len b A fit = absurd (let z : ◌≡◌ {A = ℕ} 0 1 = cc in omega arith)

pub is_inserted : IsInserted
unfolding IsInserted
is_inserted = does InsertRange Inserted inserts

pub is-collapsed : IsCollapsed
unfolding IsCollapsed
is-collapsed = does CollapseRange Collapsed collapses

pub is-zeroed : IsZeroed
unfolding IsZeroed
is-zeroed = does ZeroRange Zeroed zeroes

pub is-punched : IsPunched
unfolding IsPunched
is-punched = does PunchHoleKeepSize Punched punches

pub is-allocated : IsAllocated
unfolding IsAllocated
is-allocated keep = does (Allocate keep) (Reserved keep) (allocates keep)

pub punch-is-zero-keep : PunchIsZeroKeep
unfolding PunchIsZeroKeep call_fallocate
punch-is-zero-keep a t w h from len = refl
