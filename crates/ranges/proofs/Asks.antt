-- What a call that is done has asked, and what it leaves where it stored into the row's file.
use mathlib.Core.Path.{◌≡◌, refl, sym, ap, ◌∙◌, subst}
use mathlib.Core.Bool.{Bool, true, false}
use mathlib.Core.List.{List}
use Prim.Native.Nat.{ℕ, ◌+◌, ◌≤◌}
use native.Mathlib.Omega.{arith}
use lib.Dec.{eqb, leb}
use borrow.Author.Tests.{leb-true, eqb-true}
use Rattle.base.specs.Out.{Out, done, refused, ensure, bind, Ok, went}
use Rattle.base.proofs.Outs.{ok-bind}
use Rattle.structs.specs.Constants.{type_file}
use Rattle.structs.specs.declared.DiskINode.{DiskINode}
use Rattle.table.specs.declared.Table.{Table}
use Rattle.table.specs.declared.Handle.{Handle}
use Rattle.table.specs.Table.{row_at, take_row}
use Rattle.files.specs.Read.{there, length_of}
use Rattle.files.specs.Store.{longest}
use Rattle.files_laws.specs.Laws.{Cut}
use Rattle.files_laws.proofs.Views.{kept_next}
use Rattle.sefs.specs.State.{Fs}
use Rattle.sefs.specs.Records.{with_size}
use Rattle.sefs.specs.Ask.{admit, by_handle, start}
use Rattle.sefs.specs.Create.{After, after}
use Rattle.sefs.specs.Contents.{has_contents, not_too_big}
use Rattle.sefs_laws.specs.Contents.{file_at, size_at, Exact, Only}
use Rattle.sefs_laws.proofs.Says.{ensure-asks}
use Rattle.sefs_laws.proofs.Handles.{handle-asks}
use Rattle.sefs_laws.proofs.Rows.{Any}
use Rattle.sefs_laws.proofs.Contents.{Asked, admit-asks, asks, Stored, only-file, only-sized, size-after, file-after}
use Rattle.pieces.proofs.Pieces.{FilledTo}
use Rattle.ranges.specs.Ranges.{plain_file, fits_mode, mode_steps, call_fallocate}
use Rattle.ranges.specs.Says.{questions}
use Rattle.ranges.specs.declared.FallocateMode.{FallocateMode}

-- ---- what it asks

-- as write and resize ask, and that it is a file
pub record AskedFile (a : List ℕ) (t : Table) (w : ℕ) (h : Handle) (i : ℕ) : Type 0 where
  pub asked : Asked a t w h i
  pub plain : plain_file (row_at t i).rec ≡ done tt

-- a plain file is of type 1
pub kind-one : (r : DiskINode) → plain_file r ≡ done tt → r.kind ≡ 1
unfolding plain_file
kind-one r e = go (leb r.kind 4) (eqb r.kind type_file) refl e
  where
    go : (b c : Bool) → eqb r.kind type_file ≡ c → bind (ensure b 19) (λ _. ensure c 21) ≡ done tt → r.kind ≡ 1
    go true true q _ = eqb-true r.kind 1 q
    go true false _ z = absurd (let x : ◌≡◌ {A = ℕ} 0 1 = cc in omega arith)
    go false c _ z = absurd (let x : ◌≡◌ {A = ℕ} 0 1 = cc in omega arith)

-- a plain file has contents
pub one-contents : (r : DiskINode) → r.kind ≡ 1 → has_contents r ≡ done tt
unfolding has_contents
one-contents r e = rw e refl

-- the call is its questions, and then its steps
pub call-is : (a : List ℕ) (t : Table) (w : ℕ) (h : Handle) (mode : FallocateMode) (from len : ℕ)
    → call_fallocate a t w h mode from len ≡ bind (questions a t w h mode from len) (λ i. bind (mode_steps mode (start a t) i from len) (λ s. done (after s)))
unfolding call_fallocate questions
call-is a t w h mode from len =
    apart (admit a t) (by_handle t w h) (λ i. plain_file (row_at t i).rec) (not_too_big (from + len)) (λ i. fits_mode mode (row_at t i).rec.size from len)
    (λ i. bind (mode_steps mode (start a t) i from len) (λ s. done (after s)))
  where
    later : (i : ℕ) (x y z : Out Unit) (k : ℕ → Out After) → bind x (λ _. bind y (λ _. bind z (λ _. k i))) ≡ bind (bind x (λ _. bind y (λ _. bind z (λ _. done i)))) k
    later i (refused n) y z k = refl
    later i (done _) (refused n) z k = refl
    later i (done _) (done _) (refused n) k = refl
    later i (done _) (done _) (done _) k = refl

    apart : (u : Out Unit) (v : Out ℕ) (x : ℕ → Out Unit) (y : Out Unit) (z : ℕ → Out Unit) (k : ℕ → Out After)
        → bind u (λ _. bind v (λ i. bind (x i) (λ _. bind y (λ _. bind (z i) (λ _. k i)))))
        ≡ bind (bind u (λ _. bind v (λ i. bind (x i) (λ _. bind y (λ _. bind (z i) (λ _. done i)))))) k
    apart (refused n) v x y z k = refl
    apart (done _) (refused n) x y z k = refl
    apart (done _) (done i) x y z k = later i (x i) y (z i) k

-- what is asked where the questions are answered
pub asked-law : (a : List ℕ) (t : Table) (w : ℕ) (h : Handle) (mode : FallocateMode) (from len : ℕ)
    → Ok (λ i. AskedFile a t w h i × (from + len ≤ longest) × (fits_mode mode (size_at t i) from len ≡ done tt)) Any (questions a t w h mode from len)
unfolding questions
asked-law a t w h mode from len =
    ok-bind (admit-asks a t) λ _ A.
    ok-bind (handle-asks {R = Any} tt tt t w h) λ i o.
    ok-bind (asks (plain_file (row_at t i).rec)) λ _ c.
    ok-bind (ensure-asks {R = Any} (leb (from + len) longest) 22 tt) λ _ e.
    ok-bind (asks (fits_mode mode (size_at t i) from len)) λ _ fit.
    went (record { asked = record { admits = A; owns = o; contents = one-contents (row_at t i).rec (kind-one (row_at t i).rec c) }; plain = c }, leb-true (from + len) longest e, fit)

-- what the steps do, the call does
pub fallocate-law : (a : List ℕ) (t : Table) (w : ℕ) (h : Handle) (mode : FallocateMode) (from len : ℕ) (P : ℕ → After → Type 0)
    → ((i : ℕ) → AskedFile a t w h i → fits_mode mode (size_at t i) from len ≡ done tt → Ok (λ (s : Fs). P i (after s)) Any (mode_steps mode (start a t) i from len))
    → Ok (λ x. (i : ℕ) × AskedFile a t w h i × (fits_mode mode (size_at t i) from len ≡ done tt) × P i x) Any (call_fallocate a t w h mode from len)
fallocate-law a t w h mode from len P steps =
    subst (Ok _ Any) (sym (call-is a t w h mode from len))
    (ok-bind (asked-law a t w h mode from len) λ i Q. ok-bind (steps i Q.0 Q.2) λ s p. went (i, Q.0, Q.2, p))

-- ---- what it leaves

module _ (a : List ℕ) (t : Table) (w : ℕ) (h : Handle) (i : ℕ) (A : AskedFile a t w h i) (top : ℕ) (d : List ℕ) (F : FilledTo a (file_at t i) top d) where
  -- the table stays
  pub only-filled : there a (file_at t i) ≡ true → Only a t i (size_at t i) (row_at t i).dirty (record { arena = d; table = t })
  only-filled y = only-file a t w h i A.asked d (record { was = y; files = F.files; exists = F.exists ∙ y; long = F.size; bytes = F.bytes; keeps = F.keeps })

  -- row i gets another size, and its file that length
  pub only-cut : (n : ℕ) (e : List ℕ) → Cut d (file_at t i) n e → Only a t i n true (record { arena = e; table = take_row t i (row_at t i).id (with_size (row_at t i).rec n) true })
  only-cut n e C =
      let S : Stored a (file_at t i) e = record {
        was = sym F.exists ∙ C.was;
        files = λ g m. kept_next (F.files g m) (C.others g m);
        exists = C.exists;
        long = C.size ∙ F.size;
        bytes = C.bytes F.bytes;
        keeps = C.keeps F.bytes F.keeps;
      } in
      only-sized a t w h i A.asked e S n

  -- so its length is its size
  pub exact-cut : (n : ℕ) (e : List ℕ) → Cut d (file_at t i) n e → Exact e (take_row t i (row_at t i).id (with_size (row_at t i).rec n) true) i
  exact-cut n e C = let O = only-cut n e C in ap (length_of e) (file-after O) ∙ C.long ∙ sym (size-after O)
