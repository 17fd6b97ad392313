-- Order 1: what write and resize do, and what is read afterwards.
use mathlib.Core.Path.{◌≡◌, refl, sym, ap, ap₂, ◌∙◌, subst}
use mathlib.Core.Bool.{Bool, true, not, ◌&&◌, ◌||◌}
use mathlib.Core.List.{List}
use mathlib.Core.Logic.{⊎_elim, ◌≢◌, ◌⊎◌}
use Prim.Native.Nat.{ℕ, ◌+◌, ◌-◌, ◌≤◌, ◌<◌, max}
use native.Mathlib.Omega.{arith}
use lib.ListN.{length, get_or, replicate}
use lib.Dec.{ltb, leb, eqb}
use borrow.Author.Tests.{lt-ltb, le-ltb, ltb-true, ltb-false}
use Rattle.base.specs.Out.{Out, done, refused, bind, Ok, went, said}
use Rattle.base.specs.Parts.{tab}
use Rattle.base.specs.Search.{pick, found_below}
use Rattle.std.specs.Prelude.{Some, None}
use Rattle.base.proofs.Numbers.{lt-or-le}
use Rattle.base.proofs.Lists.{tab-cong, tab-get_or, tab-zeros}
use Rattle.base.proofs.Outs.{ok-bind, ok-weaken, ok-done}
use Rattle.le.specs.Le.{Bytes}
use Rattle.structs.specs.declared.DiskINode.{DiskINode}
use Rattle.table.specs.declared.Table.{Table}
use Rattle.table.specs.declared.Row.{Row}
use Rattle.table.specs.declared.Hold.{Hold}
use Rattle.table.specs.declared.Handle.{Handle}
use Rattle.table.specs.Table.{row_at, take_row, live_row}
use Rattle.table.specs.Formed.{well_formed}
use Rattle.table.specs.Zero.{zero_hold}
use Rattle.table_laws.specs.Rules.{WellFormed}
use Rattle.table_laws.proofs.Rules.{well-formed}
use Rattle.table_laws.proofs.Rows.{row_here, row_apart, change-row}
use Rattle.table_laws.proofs.Handles.{live-means, live-used}
use Rattle.arena.specs.Blocks.{legal}
use Rattle.arena.specs.Fields.{File}
use Rattle.sound.specs.Sound.{sound}
use Rattle.files.specs.Read.{there, length_of, byte_at}
use Rattle.files.specs.Store.{longest}
use Rattle.files_laws.specs.Laws.{Kept, Put, Cut}
use Rattle.files_laws.proofs.Parts.{sound-inside}
use Rattle.files_laws.proofs.Views.{kept_next}
use Rattle.files_laws.proofs.Bounds.{legal-same}
use Rattle.files_laws.proofs.Put.{put-law}
use Rattle.files_laws.proofs.Cut.{cut-law}
use Rattle.sefs.specs.State.{Fs}
use Rattle.sefs.specs.Records.{with_size}
use Rattle.sefs.specs.Nodes.{node_file}
use Rattle.sefs.specs.Ask.{admit_arena, admit, start}
use Rattle.sefs.specs.Create.{After, after}
use Rattle.sefs.specs.Contents.{has_contents, read_count, read_bytes, call_read, resize_steps, call_resize, write_steps, call_write}
use Rattle.sefs_laws.specs.Contents.{file_at, size_at, Exact, sized, Only, Written, IsWritten, WrittenRead, ReadSame, ReadOther, HoleZero, Resized, IsResized, CutOff}
use Rattle.sefs_laws.proofs.Says.{ensure-asks}
use Rattle.sefs_laws.proofs.Handles.{Owns, live-owns, handle-asks, handle-done}
use Rattle.sefs_laws.proofs.Rows.{Any, any-pick}

-- ---- what the three calls ask first

pub record Admitted (a : List ℕ) (t : Table) : Type 0 where
  pub right : legal a ≡ true
  pub whole : sound a ≡ true
  pub formed : well_formed t ≡ true

pub record Asked (a : List ℕ) (t : Table) (w : ℕ) (h : Handle) (i : ℕ) : Type 0 where
  pub admits : Admitted a t
  pub owns : Owns t w h i
  pub contents : has_contents (row_at t i).rec ≡ done tt

pub admit-asks : (a : List ℕ) (t : Table) → Ok (λ _. Admitted a t) Any (admit a t)
unfolding admit admit_arena
admit-asks a t =
    ok-bind {P = λ _. (legal a ≡ true) × (sound a ≡ true)}
    (ok-bind (ensure-asks (legal a) 1 tt) λ _ l. ok-weaken (λ _ s. (l, s)) (λ _ _. tt) (ensure-asks {R = Any} (sound a) 2 tt)) λ _ p.
    ok-weaken (λ _ w. record { right = p.0; whole = p.1; formed = w }) (λ _ _. tt) (ensure-asks {R = Any} (well_formed t) 3 tt)

-- an outcome that is done is done
pub asks : (o : Out Unit) → Ok (λ _. o ≡ done tt) Any o
asks (done tt) = went refl
asks (refused n) = said tt

-- a read through a handle on row j
pub reads_at : (a : List ℕ) (t : Table) (w : ℕ) (g : Handle) (j at room : ℕ) → Admitted a t → live_row t w g ≡ Some j
    → call_read a t w g at room ≡ bind (has_contents (row_at t j).rec) (λ _. read_bytes a (file_at t j) at (read_count (size_at t j) at room))
unfolding call_read admit admit_arena
reads_at a t w g j at room A e =
    let o : Owns t w g j = live-owns t w g j ((well-formed t).0 A.formed) e in
    rw (A.right, A.whole, A.formed, handle-done t w g j o) refl

-- where the file is there, it gives the bytes below the size
pub reads : (a : List ℕ) (t : Table) (w : ℕ) (h : Handle) (i at room : ℕ) → Asked a t w h i → there a (file_at t i) ≡ true
    → call_read a t w h at room ≡ done (tab (byte_at a (file_at t i)) at (read_count (size_at t i) at room))
unfolding read_bytes
reads a t w h i at room A e = reads_at a t w h i at room A.admits A.owns.live ∙ rw (A.contents, e) refl

-- a file that is as it was reads as it did
pub reads_kept : (a d : List ℕ) (f : File) (at n : ℕ) → Kept a d f → read_bytes d f at n ≡ read_bytes a f at n
unfolding read_bytes
reads_kept a d f at n K = rw (K.exists, tab-cong (byte_at d f) (byte_at a f) at at n (λ k _. K.byte (at + k))) refl

-- all of a part below the size is read, and as much where the size is the same
pub count-all : (n at room : ℕ) → at + room ≤ n → read_count n at room ≡ room
count-all n at room l = omega arith

pub count_same : (n end at room : ℕ) → (at + room ≤ n) ⊎ (end ≤ n) → read_count (max n end) at room ≡ read_count n at room
count_same n end at room low =
    ⊎_elim
    (λ l. count-all (max n end) at room (omega arith) ∙ sym (count-all n at room l))
    (λ l. ap (λ (m : ℕ). read_count m at room) (let e : max n end ≡ n = omega arith in e))
    low

count-below : (n end at room k : ℕ) → k < read_count n at room → (k < room) × (at + k < max n end)
count-below n end at room k l = let m : at + k < n = omega arith in (omega arith, omega arith)

-- zeros read
pub tab-zero : (f : ℕ → ℕ) (at n : ℕ) → ((k : ℕ) → k < n → f (at + k) ≡ 0) → tab f at n ≡ replicate n 0
tab-zero f at n z = tab-cong f (λ _. 0) at at n z ∙ tab-zeros at n

-- ---- a row with another size

pub one-row : (t : Table) (w : ℕ) (h : Handle) (i j : ℕ) → live_row t w h ≡ Some i → live_row t w h ≡ Some j → i ≡ j
one-row t w h i j e f = sym ((live-means t w h i).0 e).names ∙ ((live-means t w h j).0 f).names

-- the holds alone say which row a handle has
pub live_same : (t u : Table) (w : ℕ) (h : Handle) → u.holds ≡ t.holds → live_row u w h ≡ live_row t w h
unfolding live_row
live_same t u w h e =
    ap (λ (l : List Hold). pick ((ltb h.hold 32 && (not (eqb h.stamp 0) && eqb (get_or l h.hold zero_hold).stamp h.stamp)) && eqb (get_or l h.hold zero_hold).owner w) (found_below (get_or l h.hold zero_hold).row 34) None) e

contents-same : (r : DiskINode) (n : ℕ) → has_contents (with_size r n) ≡ has_contents r
unfolding has_contents
contents-same r n = refl

module _ {a : List ℕ} {t : Table} {i n : ℕ} {dirty : Bool} {x : After} (O : Only a t i n dirty x) where
  pub size-after : size_at x.table i ≡ n
  size-after = ap (λ (r : Row). r.rec.size) O.row

  pub file-after : file_at x.table i ≡ file_at t i
  file-after = ap (λ (r : Row). node_file r.rec) O.row

  pub asked-after : (w : ℕ) (h : Handle) → Asked a t w h i → Asked x.arena x.table w h i
  asked-after w h A = record {
    admits = record { right = legal-same a x.arena O.long ∙ A.admits.right; whole = O.keeps; formed = O.formed };
    owns = record { owner = A.owns.owner; live = live_same t x.table w h O.holds ∙ A.owns.live };
    contents = ap (λ (r : Row). has_contents r.rec) O.row ∙ contents-same (row_at t i).rec n ∙ A.contents;
  }

  pub reads-after : (w : ℕ) (h : Handle) (at room : ℕ) → Asked a t w h i
      → call_read x.arena x.table w h at room ≡ done (tab (byte_at x.arena (file_at t i)) at (read_count n at room))
  reads-after w h at room A =
      reads x.arena x.table w h i at room (asked-after w h A) (ap (there x.arena) file-after ∙ O.exists)
      ∙ ap₂ (λ (f : File) (m : ℕ). done (tab (byte_at x.arena f) at (read_count m at room))) file-after size-after

pub only-as : {a : List ℕ} {t : Table} {i m n : ℕ} {b c : Bool} {x : After} → m ≡ n → b ≡ c → Only a t i n c x → Only a t i m b x
only-as {a} {t} {i} {m} {n} {b} {c} {x} e f O = subst (λ (k : ℕ). Only a t i k b x) (sym e) (subst (λ (y : Bool). Only a t i n y x) (sym f) O)

-- what is known of the arena that a store on row i's file leaves
pub record Stored (a : List ℕ) (f : File) (d : List ℕ) : Type 0 where
  pub was : there a f ≡ true
  pub files : (g : File) → f ≢ g → Kept a d g
  pub exists : there d f ≡ true
  pub long : length d ≡ length a
  pub bytes : Bytes d
  pub keeps : sound d ≡ true

module _ (a : List ℕ) (t : Table) (w : ℕ) (h : Handle) (i : ℕ) (A : Asked a t w h i) (d : List ℕ) (S : Stored a (file_at t i) d) where
  -- the table stays
  pub only-file : Only a t i (size_at t i) (row_at t i).dirty (record { arena = d; table = t })
  only-file = record {
    row = refl;
    rows = λ j _. refl;
    holds = refl;
    next = refl;
    formed = A.admits.formed;
    files = S.files;
    was = S.was;
    exists = S.exists;
    long = S.long;
    bytes = S.bytes;
    keeps = S.keeps;
  }

  -- row i gets another size
  pub only-sized : (n : ℕ) → Only a t i n true (record { arena = d; table = take_row t i (row_at t i).id (with_size (row_at t i).rec n) true })
  only-sized n =
      let y : WellFormed t = (well-formed t).0 A.admits.formed in
      let L = (live-means t w h i).0 A.owns.live in
      let r : Row = sized (row_at t i) n true in
      record {
        row = row_here t i r (omega (arith, y.rows-34, L.is_row));
        rows = λ j e. row_apart t i r j e;
        holds = refl;
        next = refl;
        formed = (well-formed _).1 (change-row t y i L.is_row r (live-used t w h i y L) refl);
        files = S.files;
        was = S.was;
        exists = S.exists;
        long = S.long;
        bytes = S.bytes;
        keeps = S.keeps;
      }

-- ---- resize

module _ (a : List ℕ) (t : Table) (w : ℕ) (h : Handle) (bytes-a : Bytes a) where
  cut-stored : (f : File) (n : ℕ) (d : List ℕ) → sound a ≡ true → Cut a f n d → Stored a f d
  cut-stored f n d ok C = record { was = C.was; files = C.others; exists = C.exists; long = C.size; bytes = C.bytes bytes-a; keeps = C.keeps bytes-a ok }

  pub cut-resized : (i n : ℕ) (d : List ℕ) → Asked a t w h i → Cut a (file_at t i) n d → Resized a t i n (record { arena = d; table = take_row t i (row_at t i).id (with_size (row_at t i).rec n) true })
  cut-resized i n d A C =
      let O = only-sized a t w h i A d (cut-stored (file_at t i) n d A.admits.whole C) n in
      record {
        below = C.below;
        beyond = λ p l. ⊎_elim
            (λ k. C.below p k ∙ (sound-inside a A.admits.whole (file_at t i)).past p (omega arith))
            (λ k. C.beyond p k)
            (lt-or-le p n);
        exact = ap (length_of d) (file-after O) ∙ C.long ∙ sym (size-after O);
        only = O;
      }

  resize-law : (n : ℕ) → Ok (λ x. (i : ℕ) × Asked a t w h i × Resized a t i n x) Any (call_resize a t w h n)
  unfolding call_resize resize_steps
  resize-law n =
      ok-bind (admit-asks a t) λ _ A.
      ok-bind (handle-asks {R = Any} tt tt t w h) λ i o.
      ok-bind (asks (has_contents (row_at t i).rec)) λ _ c.
      ok-bind (ensure-asks {R = Any} (leb n longest) 22 tt) λ _ _.
      let Q : Asked a t w h i = record { admits = A; owns = o; contents = c } in
      ok-bind {P = λ (s : Fs). Resized a t i n (after s)}
      (ok-bind (ok-weaken (λ d C. C) (λ _ _. tt) (cut-law a (file_at t i) n)) λ d C. went (cut-resized i n d Q C))
      λ s R. went (i, Q, R)

  resizes : (n : ℕ) (x : After) → call_resize a t w h n ≡ done x → (i : ℕ) × Asked a t w h i × Resized a t i n x
  resizes n x e = ok-done (subst (Ok _ _) e (resize-law n))

-- ---- write

module _ (a : List ℕ) (t : Table) (w : ℕ) (h : Handle) (i place : ℕ) (src : List ℕ) (bytes-a : Bytes a) (bytes-s : Bytes src) (A : Asked a t w h i) where
  -- past the size: the length is set to the end
  grown : (d e : List ℕ) → Put a (file_at t i) place src d → Cut d (file_at t i) (place + length src) e → size_at t i < place + length src
      → Written a t i place src (record { arena = e; table = take_row t i (row_at t i).id (with_size (row_at t i).rec (place + length src)) true })
  grown d e P C g =
      let m : max (size_at t i) (place + length src) ≡ place + length src = omega arith in
      let b : (ltb (size_at t i) (place + length src) || (row_at t i).dirty) ≡ true = ap (λ (y : Bool). y || (row_at t i).dirty) (lt-ltb (size_at t i) (place + length src) g) in
      let S : Stored a (file_at t i) e = record {
        was = P.was;
        files = λ k n. kept_next (P.others k n) (C.others k n);
        exists = C.exists;
        long = C.size ∙ P.size;
        bytes = C.bytes (P.bytes bytes-a bytes-s);
        keeps = C.keeps (P.bytes bytes-a bytes-s) (P.keeps bytes-a bytes-s A.admits.whole);
      } in
      let O = only-sized a t w h i A e S (place + length src) in
      record {
        inside = λ p k l. C.below p l ∙ P.inside p k l;
        outside = λ p k l. C.below p (omega arith) ∙ P.outside p k;
        hole = λ x p k l. C.below p (omega arith) ∙ P.outside p (λ z. absurd (omega arith)) ∙ (sound-inside a A.admits.whole (file_at t i)).past p (omega arith);
        exact = λ _. ap (length_of e) (file-after O) ∙ C.long ∙ sym (size-after O);
        only = only-as m b O;
      }

  -- below the size: the table stays
  within : (d : List ℕ) → Put a (file_at t i) place src d → place + length src ≤ size_at t i → Written a t i place src (record { arena = d; table = t })
  within d P g =
      let m : max (size_at t i) (place + length src) ≡ size_at t i = omega arith in
      let b : (ltb (size_at t i) (place + length src) || (row_at t i).dirty) ≡ (row_at t i).dirty = ap (λ (y : Bool). y || (row_at t i).dirty) (le-ltb (size_at t i) (place + length src) g) in
      let S : Stored a (file_at t i) d = record {
        was = P.was;
        files = P.others;
        exists = P.exists;
        long = P.size;
        bytes = P.bytes bytes-a bytes-s;
        keeps = P.keeps bytes-a bytes-s A.admits.whole;
      } in
      record {
        inside = P.inside;
        outside = λ p k _. P.outside p k;
        hole = λ _ p k l. absurd (omega arith);
        exact = λ x. omega (arith, P.long, x);
        only = only-as m b (only-file a t w h i A d S);
      }

  steps-law : Ok (λ s. Written a t i place src (after s)) Any (write_steps (start a t) i place src)
  unfolding write_steps resize_steps
  steps-law =
      ok-bind (ok-weaken (λ d P. P) (λ _ _. tt) (put-law a (file_at t i) place src)) λ d P.
      any-pick (ltb (size_at t i) (place + length src)) _ _
      (λ y. ok-bind (ok-weaken (λ e C. C) (λ _ _. tt) (cut-law d (file_at t i) (place + length src))) λ e C. went (grown d e P C (ltb-true _ _ y)))
      (λ n. went (within d P (ltb-false _ _ n)))

module _ (a : List ℕ) (t : Table) (w : ℕ) (h : Handle) (place : ℕ) (src : List ℕ) (bytes-a : Bytes a) (bytes-s : Bytes src) where
  write-law : Ok (λ x. (i : ℕ) × Asked a t w h i × Written a t i place src x) Any (call_write a t w h place src)
  unfolding call_write
  write-law =
      ok-bind (admit-asks a t) λ _ A.
      ok-bind (handle-asks {R = Any} tt tt t w h) λ i o.
      ok-bind (asks (has_contents (row_at t i).rec)) λ _ c.
      ok-bind (ensure-asks {R = Any} (leb (place + length src) longest) 22 tt) λ _ _.
      let Q : Asked a t w h i = record { admits = A; owns = o; contents = c } in
      ok-bind (steps-law a t w h i place src bytes-a bytes-s Q) λ s W. went (i, Q, W)

  writes : (x : After) → call_write a t w h place src ≡ done x → (i : ℕ) × Asked a t w h i × Written a t i place src x
  writes x e = ok-done (subst (Ok _ _) e write-law)

-- ---- the laws

pub is-written : IsWritten
unfolding IsWritten
is-written a t w h i place src x b s l e =
    let W = writes a t w h place src b s x e in
    subst (λ (j : ℕ). Written a t j place src x) (one-row t w h W.0 i W.1.owns.live l) W.2

pub is-resized : IsResized
unfolding IsResized
is-resized a t w h i n x b l e =
    let R = resizes a t w h b n x e in
    subst (λ (j : ℕ). Resized a t j n x) (one-row t w h R.0 i R.1.owns.live l) R.2

module _ (a : List ℕ) (t : Table) (w : ℕ) (h : Handle) (place : ℕ) (src : List ℕ) (x : After) (i : ℕ) (A : Asked a t w h i) (W : Written a t i place src x) where
  read_back : call_read x.arena x.table w h place (length src) ≡ done src
  read_back =
      let n : read_count (max (size_at t i) (place + length src)) place (length src) ≡ length src = count-all (max (size_at t i) (place + length src)) place (length src) (omega arith) in
      reads-after W.only w h place (length src) A
      ∙ ap done
      (ap (tab (byte_at x.arena (file_at t i)) place) n
      ∙ tab-cong (byte_at x.arena (file_at t i)) (λ k. get_or src k 0) place 0 (length src) (λ k l.
      W.inside (place + k) (omega arith) (omega arith) ∙ ap (λ (j : ℕ). get_or src j 0) (let e : place + k - place ≡ 0 + k = omega arith in e))
      ∙ tab-get_or src)

  read-apart : (at room : ℕ) → (at < place + length src → at + room ≤ place) → (at + room ≤ size_at t i) ⊎ (place + length src ≤ size_at t i)
      → call_read x.arena x.table w h at room ≡ call_read a t w h at room
  read-apart at room out low =
      let n : read_count (max (size_at t i) (place + length src)) at room ≡ read_count (size_at t i) at room = count_same (size_at t i) (place + length src) at room low in
      reads-after W.only w h at room A
      ∙ ap done
      (ap (tab (byte_at x.arena (file_at t i)) at) n
      ∙ tab-cong (byte_at x.arena (file_at t i)) (byte_at a (file_at t i)) at at (read_count (size_at t i) at room) (λ k l. let c = count-below (size_at t i) (place + length src) at room k l in W.outside (at + k) (apart k c.0) c.1))
      ∙ sym (reads a t w h i at room A W.only.was)
    where
      apart : (k : ℕ) → k < room → place ≤ at + k → place + length src ≤ at + k
      apart k l g = ⊎_elim (λ m. absurd (omega (arith, out m))) (λ m. omega arith) (lt-or-le at (place + length src))

  read-hole : (at room : ℕ) → Exact a t i → size_at t i ≤ at → at + room ≤ place → call_read x.arena x.table w h at room ≡ done (replicate room 0)
  read-hole at room e l m =
      let n : read_count (max (size_at t i) (place + length src)) at room ≡ room = count-all (max (size_at t i) (place + length src)) at room (omega arith) in
      reads-after W.only w h at room A
      ∙ ap done (ap (tab (byte_at x.arena (file_at t i)) at) n ∙ tab-zero (byte_at x.arena (file_at t i)) at room (λ k y. W.hole e (at + k) (omega arith) (omega arith)))

pub written_read : WrittenRead
unfolding WrittenRead
written_read a t w h place src x b s e = let W = writes a t w h place src b s x e in read_back a t w h place src x W.0 W.1 W.2

pub read_same : ReadSame
unfolding ReadSame
read_same a t w h i place src x at room b s l e out low =
    let W = writes a t w h place src b s x e in
    let q : W.0 ≡ i = one-row t w h W.0 i W.1.owns.live l in
    read-apart a t w h place src x W.0 W.1 W.2 at room out (subst (λ (j : ℕ). (at + room ≤ size_at t j) ⊎ (place + length src ≤ size_at t j)) (sym q) low)

pub hole-zero : HoleZero
unfolding HoleZero
hole-zero a t w h i place src x at room b s l ex e m n =
    let W = writes a t w h place src b s x e in
    let q : W.0 ≡ i = one-row t w h W.0 i W.1.owns.live l in
    read-hole a t w h place src x W.0 W.1 W.2 at room (subst (Exact a t) (sym q) ex) (subst (λ (j : ℕ). size_at t j ≤ at) (sym q) m) n

pub read-other : ReadOther
unfolding ReadOther
read-other a t v w h g i j place src x at room b s l k ne e =
    let W = writes a t w h place src b s x e in
    let q : W.0 ≡ i = one-row t w h W.0 i W.1.owns.live l in
    let O = W.2.only in
    let d : file_at t W.0 ≢ file_at t j = subst (λ (n : ℕ). file_at t n ≢ file_at t j) (sym q) ne in
    let u : Admitted x.arena x.table = (asked-after O w h W.1).admits in
    reads_at x.arena x.table v g j at room u (live_same t x.table v g O.holds ∙ k)
    ∙ ap (λ (r : Row). bind (has_contents r.rec) (λ _. read_bytes x.arena (node_file r.rec) at (read_count r.rec.size at room))) (O.rows j (λ z. d (ap (file_at t) (sym z))))
    ∙ ap (λ (o : Out (List ℕ)). bind (has_contents (row_at t j).rec) (λ _. o)) (reads_kept a x.arena (file_at t j) at (read_count (size_at t j) at room) (O.files (file_at t j) d))
    ∙ sym (reads_at a t v g j at room W.1.admits k)

pub cut_off : CutOff
unfolding CutOff
cut_off a t w h n m x y at room b e f l =
    let R = resizes a t w h b n x e in
    let Q = resizes x.arena x.table w h R.2.only.bytes m y f in
    let q : R.0 ≡ Q.0 = one-row x.table w h R.0 Q.0 (asked-after R.2.only w h R.1).owns.live Q.1.owns.live in
    let z : length_of x.arena (file_at x.table Q.0) ≡ n =
    subst (λ (i : ℕ). length_of x.arena (file_at x.table i) ≡ n) q (R.2.exact ∙ size-after R.2.only) in
    reads-after Q.2.only w h at room Q.1
    ∙ ap done (tab-zero (byte_at y.arena (file_at x.table Q.0)) at (read_count m at room) (λ k _. Q.2.beyond (at + k) (omega arith)))
