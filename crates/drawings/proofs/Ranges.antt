-- What each mode of order 13's call makes of a file's text, and what every read gives afterwards.
use mathlib.Core.Path.{◌≡◌, refl, sym, ap, ap₂, ◌∙◌, subst}
use mathlib.Core.Bool.{Bool, true, false}
use mathlib.Core.List.{List, [], ◌∷◌, ◌++◌}
use mathlib.Core.Logic.{inl, inr, ⊎_elim}
use Prim.Native.Nat.{ℕ, ◌+◌, ◌-◌, ◌≤◌, ◌<◌, min, max}
use native.Mathlib.Omega.{arith}
use lib.ListN.{take, replicate}
use Rattle.base.specs.Out.{done, kept, Ok}
use Rattle.base.specs.Parts.{part, paste, tab}
use Rattle.std.specs.Prelude.{Some}
use Rattle.base.proofs.Numbers.{lt-or-le}
use Rattle.base.proofs.Outs.{ok-done, bind-is-done}
use Rattle.base.proofs.Lists.{length-tab, get_or-tab, tab-cong}
use Rattle.structs.specs.Types.{is_folder}
use Rattle.structs.specs.declared.DiskINode.{DiskINode}
use Rattle.table.specs.declared.Table.{Table}
use Rattle.table.specs.declared.Row.{Row}
use Rattle.table.specs.declared.Handle.{Handle}
use Rattle.table.specs.Table.{row_at, live_row}
use Rattle.arena.specs.Fields.{File}
use Rattle.files.specs.Read.{byte_at}
use Rattle.files_laws.proofs.Parts.{sound-inside}
use Rattle.pieces.proofs.Runs.{tab-join}
use Rattle.sefs.specs.Ask.{start}
use Rattle.sefs.specs.Create.{After, after}
use Rattle.sefs.specs.Contents.{call_read}
use Rattle.sefs_laws.specs.Contents.{file_at, size_at, Only, Resized}
use Rattle.sefs_laws.proofs.Clear.{Clear}
use Rattle.sefs_laws.proofs.Contents.{one-row, live_same, file-after, size-after}
use Rattle.ranges.specs.Ranges.{call_fallocate}
use Rattle.ranges.specs.Laws.{Inserted, Collapsed, Zeroed, Punched, Reserved, PunchIsZeroKeep}
use Rattle.ranges.specs.declared.FallocateMode.{FallocateMode}
use Rattle.ranges.specs.declared.FallocateMode.TheVariants.{Allocate, PunchHoleKeepSize, ZeroRange, ZeroRangeKeepSize, CollapseRange, InsertRange, Unknown}
use Rattle.ranges.proofs.Asks.{AskedFile, kind-one}
use Rattle.ranges.proofs.Modes.{punch-is-zero-keep, done-law, inserts, collapses, zeroes, punches, allocates, never-fits, insert-starts, collapse-ends}
use Rattle.ranges.proofs.Afterwards.{only-or}
use Rattle.image.proofs.Handles.{row-rec}
use Rattle.sequences.specs.Pairs.{Pair, pair, Passed}
use Rattle.sequences.specs.Calls.{fallocate, does}
use Rattle.sequences.specs.Promises.{On}
use Rattle.sequences.proofs.Passing.{Spelled, allowed, spelled-any}
use Rattle.sequences.proofs.Corner.{on-used}
use Rattle.sequences.proofs.Reading.{long-is, whole-file}
use Rattle.sequences.proofs.Ranges.{OnFile, on-file, one-no-folder, keeps-fallocate}
use Rattle.drawings.specs.Ranges.{text_at, new_text, TextIs, ReadsText, ReadsNew}
use Rattle.drawings.proofs.Lists.{take-tab, drop-tab, three-parts, filled-tab, laid-tab}
use Rattle.drawings.proofs.Saved.{text-read}

abbrev Text : FallocateMode → List ℕ → Table → ℕ → ℕ → ℕ → After → Type 0
Text mode a t i from len x = text_at x.arena x.table i ≡ new_text mode from len (text_at a t i)

-- ---- each mode

module _ (p : Pair) (w : ℕ) (h : Handle) (i from len : ℕ) (x : After) (F : OnFile p w h i) where
  abbrev a : List ℕ
  a = p.arena

  abbrev t : Table
  t = p.table

  abbrev size : ℕ
  size = size_at p.table i

  abbrev b : ℕ → ℕ
  b = byte_at p.arena (file_at p.table i)

  abbrev c : ℕ → ℕ
  c = byte_at x.arena (file_at p.table i)

  -- past the size there are zeros
  past : (j : ℕ) → size_at p.table i ≤ j → byte_at p.arena (file_at p.table i) j ≡ 0
  past j l = (sound-inside a F.asked.asked.admits.whole (file_at t i)).past j (omega (arith, F.exact))

  text-after : {n : ℕ} {dirty : Bool} → Only a t i n dirty x → text_at x.arena x.table i ≡ tab (byte_at x.arena (file_at p.table i)) 0 n
  text-after O = ap₂ (λ (f : File) (m : ℕ). tab (byte_at x.arena f) 0 m) (file-after O) (size-after O)

  taken : from ≤ size → take from (tab b 0 size) ≡ tab b 0 from
  taken l = take-tab b 0 from size ∙ ap (tab b 0) (let e : min from (size_at p.table i) ≡ from = omega arith in e)

  insert-text : from < size → Inserted a t i from len x → Text InsertRange a t i from len x
  insert-text l I =
      text-after I.only
      ∙ sym (ap₂ (λ (u v : List ℕ). u ++ (replicate len 0 ++ v)) (taken (omega arith)) (drop-tab b 0 from size)
      ∙ three-parts b c from len (0 + from) (size - from) I.below I.hole
      (λ k g. ap c (let e : from + len + k ≡ 0 + from + k + len = omega arith in e) ∙ I.moved (0 + from + k) (omega arith) (omega arith))
      ∙ ap (tab c 0) (let e : from + (len + (size_at p.table i - from)) ≡ size_at p.table i + len = omega arith in e))

  collapse-text : from + len < size → Collapsed a t i from len x → Text CollapseRange a t i from len x
  collapse-text l C =
      text-after C.only
      ∙ sym (ap₂ (λ (u v : List ℕ). u ++ v)
      (taken (omega arith) ∙ tab-cong b c 0 0 from (λ k g. sym (C.below (0 + k) (omega arith))))
      (drop-tab b 0 (from + len) size ∙ tab-cong b c (0 + (from + len)) (0 + from) (size - (from + len))
      (λ k g. sym (C.moved (0 + from + k) (omega arith) (omega arith) ∙ ap b (let e : 0 + from + k + len ≡ 0 + (from + len) + k = omega arith in e))))
      ∙ tab-join c 0 from (size - (from + len))
      ∙ ap (tab c 0) (let e : from + (size_at p.table i - (from + len)) ≡ size_at p.table i - len = omega arith in e))

  zero-text : Zeroed a t i from len x → Text ZeroRange a t i from len x
  zero-text Z =
      text-after (Z.only F.exists)
      ∙ sym (laid-tab b c size from len past (λ j l. Z.outside j (inl l) (omega arith)) Z.inside (λ j l m. Z.outside j (inr l) m))

  punch-text : Punched a t i from len x → Text PunchHoleKeepSize a t i from len x
  punch-text P =
      text-after (P.only F.exists)
      ∙ sym (ap₂ take (length-tab b 0 size)
      (laid-tab b c size from len past (λ j l. P.outside j (inl (inl l)))
      (λ j l m. ⊎_elim (λ k. P.inside j l m k) (λ k. P.outside j (inr k) ∙ past j k) (lt-or-le j (size_at p.table i)))
      (λ j l m. P.outside j (inl (inr l))))
      ∙ take-tab c 0 size (max size (from + len))
      ∙ ap (tab c 0) (let e : min (size_at p.table i) (max (size_at p.table i) (from + len)) ≡ size_at p.table i = omega arith in e))

  same_text : x ≡ after (start a t) → text_at x.arena x.table i ≡ text_at a t i
  same_text e = ap (λ (y : After). text_at y.arena y.table i) e

  -- grown, or as it was
  allocate-text : Reserved false a t i from len x → Text (Allocate false) a t i from len x
  allocate-text R = ⊎_elim
      (λ (l : size_at p.table i < from + len).
      let G : Resized p.arena p.table i (from + len) x = R.grown refl l in
      text-after G.only
      ∙ sym (filled-tab b size (from + len) past
      ∙ ap (tab b 0) (let e : max (size_at p.table i) (from + len) ≡ from + len = omega arith in e)
      ∙ tab-cong b c 0 0 (from + len) (λ k g. sym (G.below (0 + k) (omega arith)))))
      (λ l. same_text (R.nothing (inr l)) ∙ sym (filled-tab b size (from + len) past ∙ ap (tab b 0) (let e : max (size_at p.table i) (from + len) ≡ size_at p.table i = omega arith in e)))
      (lt-or-le size (from + len))

-- ---- the call

module _ (p : Pair) (y : Passed p) (w : ℕ) (h : Handle) (from len : ℕ) (x : After) where
  file-of : (i : ℕ) → AskedFile p.arena p.table w h i → OnFile p w h i
  file-of = on-file p y w h

  punch-law : call_fallocate p.arena p.table w h PunchHoleKeepSize from len ≡ done x
      → (i : ℕ) × AskedFile p.arena p.table w h i × Text PunchHoleKeepSize p.arena p.table i from len x
  punch-law e =
      let D = done-law PunchHoleKeepSize Punched punches p.arena p.table w h from len x y.typed.bytes e in
      (D.0, D.1, punch-text p w h D.0 from len x (file-of D.0 D.1) D.3)

  text-law : (mode : FallocateMode) → call_fallocate p.arena p.table w h mode from len ≡ done x
      → (i : ℕ) × AskedFile p.arena p.table w h i × Text mode p.arena p.table i from len x
  unfolding PunchIsZeroKeep
  text-law InsertRange e =
      let D = done-law InsertRange Inserted inserts p.arena p.table w h from len x y.typed.bytes e in
      (D.0, D.1, insert-text p w h D.0 from len x (file-of D.0 D.1) (insert-starts (size_at p.table D.0) from len D.2) D.3)
  text-law CollapseRange e =
      let D = done-law CollapseRange Collapsed collapses p.arena p.table w h from len x y.typed.bytes e in
      (D.0, D.1, collapse-text p w h D.0 from len x (file-of D.0 D.1) (collapse-ends (size_at p.table D.0) from len D.2) D.3)
  text-law ZeroRange e =
      let D = done-law ZeroRange Zeroed zeroes p.arena p.table w h from len x y.typed.bytes e in
      (D.0, D.1, zero-text p w h D.0 from len x (file-of D.0 D.1) D.3)
  text-law PunchHoleKeepSize e = punch-law e
  text-law ZeroRangeKeepSize e = punch-law (sym (punch-is-zero-keep p.arena p.table w h from len) ∙ e)
  text-law (Allocate true) e =
      let D = done-law (Allocate true) (Reserved true) (allocates true) p.arena p.table w h from len x y.typed.bytes e in
      (D.0, D.1, same_text p w h D.0 from len x (file-of D.0 D.1) (D.3.nothing (inl refl)))
  text-law (Allocate false) e =
      let D = done-law (Allocate false) (Reserved false) (allocates false) p.arena p.table w h from len x y.typed.bytes e in
      (D.0, D.1, allocate-text p w h D.0 from len x (file-of D.0 D.1) D.3)
  text-law Unknown e = absurd (done-law Unknown (λ _ _ _ _ _ _. ⊥) never-fits p.arena p.table w h from len x y.typed.bytes e).3

-- what the call left
fallocated : (p q : Pair) (w : ℕ) (h : Handle) (mode : FallocateMode) (from len : ℕ) → does (fallocate w h mode from len) p ≡ done q
    → (x : After) × (call_fallocate p.arena p.table w h mode from len ≡ done x) × (pair x.arena x.table ≡ q)
unfolding does
fallocated p q w h mode from len e =
    let D = bind-is-done (call_fallocate p.arena p.table w h mode from len) _ q e in
    (D.0, D.1, ap (kept q) D.2)

pub text-is : TextIs
unfolding TextIs
text-is p q w h mode from len i y l e =
    let L = fallocated p q w h mode from len e in
    let D = text-law p y w h from len L.0 mode L.1 in
    subst (λ (r : Pair). text_at r.arena r.table i ≡ new_text mode from len (text_at p.arena p.table i)) L.2
    (subst (λ (j : ℕ). Text mode p.arena p.table j from len L.0) (one-row p.table w h D.0 i D.1.asked.owns.live l) D.2)

-- ---- reads

-- a read of a plain file is its part of the text
text-part : (p : Pair) → Passed p → (v : ℕ) (g : Handle) (i : ℕ) → live_row p.table v g ≡ Some i → (row_at p.table i).rec.kind ≡ 1 → (at room : ℕ)
    → call_read p.arena p.table v g at room ≡ done (part (text_at p.arena p.table i) at (at + room))
text-part p y v g i l k at room =
    let o : On p.table v g (row_at p.table i).id (row_at p.table i).rec.file = record { row = i; live = l; node = refl; file = refl } in
    let u = on-used p.arena p.table (allowed p y) v g _ _ o in
    let d = ap (λ (r : DiskINode). is_folder r.kind) (row-rec p.arena p.table (allowed p y) i u) ∙ one-no-folder (row_at p.table i).rec.kind k in
    let b : ℕ → ℕ = byte_at p.arena (file_at p.table i) in
    let n : ℕ = size_at p.table i in
    text-read p y o d (text_at p.arena p.table i) (long-is p y o d ∙ sym (length-tab b 0 n))
    (λ j z. sym (get_or-tab b 0 n j (omega (arith, length-tab b 0 n)) ∙ ap b (let e : 0 + j ≡ j = omega arith in e))) at room

-- the call leaves handles where they are, on a plain file still
still-on : (p q : Pair) → Passed p → (w v : ℕ) (h g : Handle) (mode : FallocateMode) (from len i : ℕ) → live_row p.table w h ≡ Some i → live_row p.table v g ≡ Some i
    → does (fallocate w h mode from len) p ≡ done q → (live_row q.table v g ≡ Some i) × ((row_at q.table i).rec.kind ≡ 1)
still-on p q y w v h g mode from len i l m e =
    let L = fallocated p q w h mode from len e in
    let D = only-or mode p.arena p.table w h from len L.0 y.typed.bytes L.1 in
    let s : D.0 ≡ i = one-row p.table w h D.0 i D.1.asked.owns.live l in
    let k : (row_at p.table i).rec.kind ≡ 1 = subst (λ (j : ℕ). (row_at p.table j).rec.kind ≡ 1) s (kind-one (row_at p.table D.0).rec D.1.plain) in
    subst (λ (r : Pair). (live_row r.table v g ≡ Some i) × ((row_at r.table i).rec.kind ≡ 1)) L.2
    (⊎_elim
    (λ O. let o = subst (λ (j : ℕ). Only p.arena p.table j O.0 O.1 L.0) s O.2 in
    (live_same p.table L.0.table v g o.holds ∙ m, ap (λ (r : Row). r.rec.kind) o.row ∙ k))
    (λ z. subst (λ (x : After). (live_row x.table v g ≡ Some i) × ((row_at x.table i).rec.kind ≡ 1)) (sym z) (m, k))
    D.2)

pub reads-text : ReadsText
unfolding ReadsText TextIs
reads-text p q w v h g mode from len i at room y l m e =
    let z : Passed q = (ok-done (subst (Ok (Spelled _) Clear) e (keeps-fallocate p w h mode from len (spelled-any p y)))).passes in
    let s = still-on p q y w v h g mode from len i l m e in
    text-part q z v g i s.0 s.1 at room ∙ ap (λ (l : List ℕ). done (part l at (at + room))) (text-is p q w h mode from len i y l e)

pub reads-new : ReadsNew
unfolding ReadsNew ReadsText
reads-new p q w h mode from len old at room y R e =
    let H = whole-file p y w h old R.room R.gives R.spare in
    let o : old ≡ text_at p.arena p.table H.row = H.bytes ∙ ap (tab (byte_at p.arena (file_at p.table H.row)) 0) H.size in
    reads-text p q w w h h mode from len H.row at room y H.live H.live e
    ∙ ap (λ (l : List ℕ). done (part (new_text mode from len l) at (at + room))) (sym o)

-- ---- five bytes, and the range of three from place 1 on, or from place 7 on

abbrev five : List ℕ
five = 5 ∷ 6 ∷ 7 ∷ 8 ∷ 9 ∷ []

inserted : new_text InsertRange 1 3 five ≡ 5 ∷ 0 ∷ 0 ∷ 0 ∷ 6 ∷ 7 ∷ 8 ∷ 9 ∷ []
inserted = refl

collapsed : new_text CollapseRange 1 3 five ≡ 5 ∷ 9 ∷ []
collapsed = refl

zeroed : new_text ZeroRange 1 3 five ≡ 5 ∷ 0 ∷ 0 ∷ 0 ∷ 9 ∷ []
unfolding paste
zeroed = refl

zeroed-past : new_text ZeroRange 7 3 five ≡ 5 ∷ 6 ∷ 7 ∷ 8 ∷ 9 ∷ 0 ∷ 0 ∷ 0 ∷ 0 ∷ 0 ∷ []
unfolding paste
zeroed-past = refl

punched : new_text PunchHoleKeepSize 3 9 five ≡ 5 ∷ 6 ∷ 7 ∷ 0 ∷ 0 ∷ []
unfolding paste
punched = refl

punched-past : new_text PunchHoleKeepSize 7 3 five ≡ five
unfolding paste
punched-past = refl

allocated : new_text (Allocate false) 1 6 five ≡ 5 ∷ 6 ∷ 7 ∷ 8 ∷ 9 ∷ 0 ∷ 0 ∷ []
allocated = refl

allocated-less : new_text (Allocate false) 1 3 five ≡ five
allocated-less = refl
