-- After an insert the blocks from its start on are all there; so the collapse of the same range needs none, and is done.
use mathlib.Core.Path.{◌≡◌, refl, sym, ap, ◌∙◌, subst}
use mathlib.Core.Bool.{Bool, true, false, not, ◌&&◌, ◌||◌}
use mathlib.Core.List.{List}
use mathlib.Core.Logic.{⊎_elim}
use Prim.Native.Nat.{ℕ, zero, suc, ◌+◌, ◌*◌, ◌-◌, ◌/◌, ◌≤◌, ◌<◌, min, max}
use native.Mathlib.Omega.{arith}
use lib.ListN.{length, replicate, length-replicate}
use lib.Dec.{eqb, ltb, leb}
use borrow.Author.Tests.{lt-ltb, ltb-true, leb-true, le-leb, eqb-true, eqb-false}
use Rattle.base.specs.Out.{done, ensure, bind, Ok, went}
use Rattle.base.specs.Search.{pick}
use Rattle.base.proofs.Bools.{true-false, and_parts, or-second}
use Rattle.base.proofs.Counts.{count_to-none}
use Rattle.base.proofs.Numbers.{lt-or-le}
use Rattle.base.proofs.Outs.{ok-bind, ok-weaken, ok-does, above_zero}
use Rattle.le.specs.Le.{Bytes}
use Rattle.structs.specs.declared.DiskINode.{DiskINode}
use Rattle.table.specs.declared.Table.{Table}
use Rattle.table.specs.declared.Row.{Row}
use Rattle.table.specs.declared.Handle.{Handle}
use Rattle.table.specs.Table.{row_at}
use Rattle.arena.specs.Fields.{File}
use Rattle.sound.specs.Sound.{sound}
use Rattle.files.specs.Read.{there, length_of, present}
use Rattle.files.specs.Store.{longest, lo, hi, touched}
use Rattle.files_laws.specs.Laws.{touches, lacking, Put, PutRefused, CutRefused, ReadRefused}
use Rattle.files_laws.proofs.Put.{put-law, touched-is}
use Rattle.files_laws.proofs.Cut.{cut-law}
use Rattle.files_laws.proofs.Reading.{read-law}
use Rattle.sefs.specs.State.{Fs}
use Rattle.sefs.specs.Records.{with_size}
use Rattle.sefs.specs.Ask.{admit_arena, admit, start}
use Rattle.sefs.specs.Create.{After, after}
use Rattle.sefs.specs.Contents.{resize_steps}
use Rattle.sefs_laws.specs.Contents.{file_at, size_at}
use Rattle.sefs_laws.proofs.Handles.{handle-done}
use Rattle.sefs_laws.proofs.Rows.{Any, any, any-pick, ok-and}
use Rattle.sefs_laws.proofs.Contents.{size-after, file-after, asked-after}
use Rattle.pieces.specs.Pieces.{pieces, piece_len, rising, falling, zeros_to, write_zeros, copy_piece, down_to, copy_down, up_to, copy_up}
use Rattle.ranges.specs.Ranges.{plain_file, aligned, fits_mode, zero_steps, collapse_steps, insert_steps, mode_steps, call_fallocate}
use Rattle.ranges.specs.Laws.{Inserted, CanGoBack}
use Rattle.ranges.specs.declared.FallocateMode.TheVariants.{CollapseRange, InsertRange}
use Rattle.pieces.proofs.Pieces.{FilledTo, piece-in, pieces-all, put-says, read-says, Copied, copied_none, pieced, down-next}
use Rattle.ranges.proofs.Asks.{AskedFile}
use Rattle.ranges.proofs.Modes.{done-law, inserts, insert-starts}
use Rattle.files_laws.specs.Laws as laws

-- the blocks of the bytes from x up to y are there
abbrev Solid : List ℕ → File → ℕ → ℕ → Type 0
Solid d f x y = (p : ℕ) → x ≤ p → p < y → present d f (p / 480) ≡ true

-- no block goes
abbrev Grows : List ℕ → File → List ℕ → Type 0
Grows a f d = (q : ℕ) → present a f q ≡ true → present d f q ≡ true

put-grows : (d : List ℕ) (f : File) (pos : ℕ) (src e : List ℕ) → Put d f pos src e → Grows d f e
put-grows d f pos src e P q y = P.block q ∙ ap (λ (b : Bool). b || touches pos (length src) q) y

put-solid : (d : List ℕ) (f : File) (pos : ℕ) (src e : List ℕ) → Put d f pos src e → Solid e f pos (pos + length src)
put-solid d f pos src e P p l m =
    P.block (p / 480) ∙ or-second (present d f (p / 480)) (lt-ltb (lo pos (p / 480)) (hi pos (length src) (p / 480)) (omega arith))

none-lacking : (d : List ℕ) (f : File) (pos n : ℕ) → Solid d f pos (pos + n) → lacking d f pos n ≡ 0
unfolding lacking
none-lacking d f pos n S =
    count_to-none (λ i. not (present d f (pos / 480 + i))) (touched pos n) (λ i l. ap not (here i (ltb-true (lo pos (pos / 480 + i)) (hi pos n (pos / 480 + i)) (touched-is pos n i l))))
  where
    here : (i : ℕ) → lo pos (pos / 480 + i) < hi pos n (pos / 480 + i) → present d f (pos / 480 + i) ≡ true
    here i l =
        let e : max pos (480 * (pos / 480 + i)) / 480 ≡ pos / 480 + i = omega arith in
        ap (present d f) (sym e) ∙ S (max pos (480 * (pos / 480 + i))) (omega arith) (omega arith)

-- ---- an insert leaves them

module _ (a : List ℕ) (f : File) where
  zeros-solid : (pos n k : ℕ) → k ≤ pieces n → Ok (λ d. Grows a f d × Solid d f pos (pos + min n (128 * k))) Any (zeros_to a f pos n k)
  unfolding zeros_to
  zeros-solid pos n zero l = went (λ q y. y, λ p g m. absurd (omega arith))
  zeros-solid pos n (suc k) l =
      ok-bind (zeros-solid pos n k (omega arith)) λ d D.
      ok-weaken
      (λ e P. let z : length {A = ℕ} (replicate (piece_len n k) 0) ≡ piece_len n k = length-replicate {A = ℕ} (piece_len n k) 0 in
      let w : 128 * k < n = piece-in n k l in
      let G : Grows d f e = put-grows d f (pos + rising k) (replicate (piece_len n k) 0) e P in
      let S : Solid e f (pos + rising k) (pos + rising k + length {A = ℕ} (replicate (piece_len n k) 0)) = put-solid d f (pos + rising k) (replicate (piece_len n k) 0) e P in
      (λ q y. G q (D.0 q y), λ p g m. ⊎_elim (λ x. G (p / 480) (D.1 p g (omega arith))) (λ x. S p x (omega arith)) (lt-or-le p (pos + rising k))))
      (λ _ _. tt) (put-says Any tt d f (pos + rising k) (replicate (piece_len n k) 0) (λ _. tt))

  up-solid : (src dst n k : ℕ) → k ≤ pieces n → Ok (λ d. Solid d f (dst + (n - 128 * k)) (dst + n)) Any (up_to a f src dst n k)
  unfolding up_to copy_piece
  up-solid src dst n zero l = went (λ p g m. absurd (omega arith))
  up-solid src dst n (suc k) l =
      ok-bind (up-solid src dst n k (omega arith)) λ d D.
      ok-bind (read-says Any tt d f (src + falling n k) (piece_len n k) (λ _. tt) (λ _. tt)) λ b X.
      ok-weaken
      (λ e P. let w : 128 * k < n = piece-in n k l in
      let G : Grows d f e = put-grows d f (dst + falling n k) b e P in
      let S : Solid e f (dst + falling n k) (dst + falling n k + length b) = put-solid d f (dst + falling n k) b e P in
      λ p g m. ⊎_elim (λ x. S p (omega arith) (omega (arith, X.size))) (λ x. G (p / 480) (D p x m)) (lt-or-le p (dst + (n - 128 * k))))
      (λ _ _. tt) (put-says Any tt d f (dst + falling n k) b (λ _. tt))

insert-solid : (a : List ℕ) (t : Table) (i from len : ℕ) → from < size_at t i → 0 < len → Ok (λ (s : Fs). Solid s.arena (file_at t i) from (size_at t i + len)) Any (insert_steps (start a t) i from len)
unfolding insert_steps zero_steps resize_steps copy_up write_zeros
insert-solid a t i from len l some =
    let f : File = file_at t i in
    let n : ℕ = size_at t i - from in
    ok-bind {P = λ d. Solid d (file_at t i) (from + len) (size_at t i + len)}
    (any-pick (eqb len 0) _ _ (λ y. absurd (let z : len ≡ 0 = eqb-true len 0 y in omega arith))
    (λ _. ok-weaken (λ d S. λ p g m. S p (omega (arith, pieces-all (size_at t i - from))) (omega arith)) (λ _ _. tt)
    (up-solid a (file_at t i) from (from + len) (size_at t i - from) (pieces (size_at t i - from)) (omega arith)))) λ d S.
    ok-bind {P = λ (s : Fs). (s.table ≡ t) × Solid s.arena (file_at t i) from (size_at t i + len)}
    (ok-bind (zeros-solid d (file_at t i) from len (pieces len) (omega arith)) λ e E.
    went (refl, λ p g m. ⊎_elim (λ x. E.1 p g (omega (arith, pieces-all len))) (λ x. E.0 (p / 480) (S p x m)) (lt-or-le p (from + len)))) λ s Z.
    subst (λ (u : Table). Ok (λ (s : Fs). Solid s.arena (file_at t i) from (size_at t i + len)) Any
    (resize_steps (record { arena = s.arena; table = u; meta = s.meta }) i ((row_at u i).rec.size + len))) (sym Z.0)
    (ok-bind (ok-weaken (λ c C. C) (λ _ _. tt) (cut-law s.arena (file_at t i) (size_at t i + len))) λ c C.
    went (λ p g m. C.block (p / 480) ∙ ap (λ (b : Bool). b && ltb (480 * (p / 480)) (size_at t i + len)) (Z.1 p g m) ∙ lt-ltb (480 * (p / 480)) (size_at t i + len) (omega arith)))

-- ---- so a collapse can't be refused

abbrev Never : ℕ → Type 0
Never r = ⊥

module _ (a : List ℕ) (f : File) (src dst n : ℕ) (bytes-a : Bytes a) (fine : sound a ≡ true) (y : there a f ≡ true) (long : src + n ≤ length_of a f) (ahead : dst ≤ src)
    (near : dst + n ≤ longest) (S : Solid a f dst (dst + n)) where
  down-done : (k : ℕ) → k ≤ pieces n → Ok (λ d. Copied a f src dst 0 (min n (128 * k)) (dst + n) d × Grows a f d) Never (down_to a f src dst n k)
  unfolding down_to copy_piece
  down-done zero l =
      went (subst (λ (m : ℕ). Copied a f src dst 0 m (dst + n) a) (let q : 0 ≡ min n (128 * 0) = omega arith in q) (copied_none a f src dst 0 (dst + n) bytes-a fine), λ q g. g)
  down-done (suc k) l =
      ok-bind (down-done k (omega arith)) λ d D.
      let w : 128 * k < n = piece-in n k l in
      let F : FilledTo a f (dst + n) d = D.0.filled in
      ok-bind (ok-weaken (λ b X. X) (λ r q. short d F w q) (read-law d f (src + rising k) (piece_len n k))) λ b X.
      ok-weaken (λ e P. (
        down-next a f src dst n bytes-a fine k d e ahead l D.0 (pieced d f (src + rising k) (dst + rising k) (piece_len n k) b e F.bytes X P),
        λ q g. put-grows d f (dst + rising k) b e P q (D.1 q g),
      ))
      (λ r q. full d F w D.1 b X.size q) (put-law d f (dst + rising k) b)
    where
      short : (d : List ℕ) → FilledTo a f (dst + n) d → 128 * k < n → {r : ℕ} → ReadRefused d f (src + rising k) (piece_len n k) r → ⊥
      short d F w (laws.missing e) = true-false (F.exists ∙ y) e
      short d F w (laws.short _ g) = omega (arith, F.grew)

      full : (d : List ℕ) → FilledTo a f (dst + n) d → 128 * k < n → Grows a f d → (b : List ℕ) → length b ≡ piece_len n k → {r : ℕ} → PutRefused d f (dst + rising k) (length b) r → ⊥
      full d F w G b z (laws.missing e) = true-false (F.exists ∙ y) e
      full d F w G b z (laws.far _ g) = omega arith
      full d F w G b z (laws.full _ _ g) =
          let e : lacking d f (dst + rising k) (length b) ≡ 0 = none-lacking d f (dst + rising k) (length b) (λ p u v. G (p / 480) (S p (omega arith) (omega arith))) in omega arith

collapse-done : (a : List ℕ) (t : Table) (i from len : ℕ) → Bytes a → sound a ≡ true → there a (file_at t i) ≡ true → length_of a (file_at t i) ≡ size_at t i
    → from + len < size_at t i → size_at t i ≤ longest
    → (0 < len → Solid a (file_at t i) from (size_at t i)) → Ok (λ (s : Fs). Unit) Never (collapse_steps (start a t) i from len)
unfolding collapse_steps copy_down resize_steps
collapse-done a t i from len b fine y e l m S =
    ok-bind {P = λ d. there d (file_at t i) ≡ true} (go (eqb len 0) refl) λ d D.
    ok-bind (ok-weaken (λ c C. C) (λ r q. why d D q) (cut-law d (file_at t i) (size_at t i - len))) λ c C. went tt
  where
    why : (d : List ℕ) → there d (file_at t i) ≡ true → {r : ℕ} → CutRefused d (file_at t i) (size_at t i - len) r → ⊥
    why d D (laws.missing q) = true-false D q
    why d D (laws.far _ g) = omega arith

    go : (k : Bool) → eqb len 0 ≡ k → Ok (λ d. there d (file_at t i) ≡ true) Never
        (pick k (done a) (down_to a (file_at t i) (from + len) from (size_at t i - (from + len)) (pieces (size_at t i - (from + len)))))
    go true q = went y
    go false q =
        let some : 0 < len = above_zero len (eqb-false len 0 q) in
        ok-weaken (λ d D. D.0.filled.exists ∙ y) (λ r n. n)
        (down-done a (file_at t i) (from + len) from (size_at t i - (from + len)) b fine y (omega arith) (omega arith) (omega arith)
        (λ p u v. S some p u (omega arith)) (pieces (size_at t i - (from + len))) (omega arith))

-- ---- the call

-- what an insert has asked lets the collapse of the same range be asked
pub collapse-fits : (size from len : ℕ) → fits_mode InsertRange size from len ≡ done tt → (fits_mode CollapseRange (size + len) from len ≡ done tt) × (size + len ≤ longest)
collapse-fits size from len e = go (ltb from size && (aligned from && aligned len)) (leb (size + len) longest) refl refl e
  where
    go : (b c : Bool) → (ltb from size && (aligned from && aligned len)) ≡ b → leb (size + len) longest ≡ c → bind (ensure b 6) (λ _. ensure c 22) ≡ done tt
        → (fits_mode CollapseRange (size + len) from len ≡ done tt) × (size + len ≤ longest)
    go true true q k _ =
        let x = and_parts (ltb from size) (aligned from && aligned len) q in
        let l : from < size = ltb-true from size x.0 in
        (rw (lt-ltb (from + len) (size + len) (omega arith), x.1) refl, leb-true (size + len) longest k)
    go true false _ _ z = absurd (let x : ◌≡◌ {A = ℕ} 0 1 = cc in omega arith)
    go false c _ _ z = absurd (let x : ◌≡◌ {A = ℕ} 0 1 = cc in omega arith)

-- a call that has asked all is its steps
collapse-call : (a : List ℕ) (t : Table) (w : ℕ) (h : Handle) (i from len : ℕ) → AskedFile a t w h i → from + len ≤ longest → fits_mode CollapseRange (size_at t i) from len ≡ done tt
    → (s : Fs) → collapse_steps (start a t) i from len ≡ done s → call_fallocate a t w h CollapseRange from len ≡ done (after s)
unfolding call_fallocate admit admit_arena
collapse-call a t w h i from len A l fit s e =
    rw (A.asked.admits.right, A.asked.admits.whole, A.asked.admits.formed, handle-done t w h i A.asked.owns, A.plain, le-leb (from + len) longest l, fit, e) refl

-- an insert, and the blocks that it leaves
abbrev Laid : List ℕ → Table → ℕ → ℕ → ℕ → After → Type 0
Laid a t i from len x = Inserted a t i from len x × (0 < len → Solid x.arena (file_at t i) from (size_at t i + len))

lays : (a : List ℕ) (t : Table) (w : ℕ) (h : Handle) (i from len : ℕ) → Bytes a → AskedFile a t w h i → fits_mode InsertRange (size_at t i) from len ≡ done tt
    → Ok (λ (s : Fs). Laid a t i from len (after s)) Any (mode_steps InsertRange (start a t) i from len)
lays a t w h i from len b A fit = ok-and (inserts a t w h i from len b A fit) solid
  where
    solid : Ok (λ (s : Fs). 0 < len → Solid s.arena (file_at t i) from (size_at t i + len)) Any (insert_steps (start a t) i from len)
    solid =
        ⊎_elim
        (λ some. ok-weaken (λ s S _. S) (λ _ _. tt) (insert-solid a t i from len (insert-starts (size_at t i) from len fit) some))
        (λ none. ok-weaken (λ s _ some. absurd (omega arith)) (λ _ _. tt) (any (insert_steps (start a t) i from len)))
        (lt-or-le 0 len)

plain-same : (r : DiskINode) (n : ℕ) → plain_file (with_size r n) ≡ plain_file r
unfolding plain_file
plain-same r n = refl

module _ (a : List ℕ) (t : Table) (w : ℕ) (h : Handle) (i from len : ℕ) (x : After) (A : AskedFile a t w h i) (fit : fits_mode InsertRange (size_at t i) from len ≡ done tt)
    (I : Inserted a t i from len x) (S : 0 < len → Solid x.arena (file_at t i) from (size_at t i + len)) where
  asked-again : AskedFile x.arena x.table w h i
  asked-again = record {
    asked = asked-after I.only w h A.asked;
    plain = ap (λ (r : Row). plain_file r.rec) I.only.row ∙ plain-same (row_at t i).rec (size_at t i + len) ∙ A.plain;
  }

  goes_back : (y : After) × (call_fallocate x.arena x.table w h CollapseRange from len ≡ done y)
  goes_back =
      let z : size_at x.table i ≡ size_at t i + len = size-after I.only in
      let c = collapse-fits (size_at t i) from len fit in
      let l : from < size_at t i = insert-starts (size_at t i) from len fit in
      let k : size_at t i + len ≤ longest = c.1 in
      let D = ok-does (collapse-done x.arena x.table i from len I.only.bytes I.only.keeps (ap (there x.arena) (file-after I.only) ∙ I.only.exists) I.exact
      (omega arith) (omega arith)
      (λ some p u v. ap (λ (g : File). present x.arena g (p / 480)) (file-after I.only) ∙ S some p u (omega arith))) (λ n r. r) in
      (after D.0, collapse-call x.arena x.table w h i from len asked-again (omega arith) (subst (λ (n : ℕ). fits_mode CollapseRange n from len ≡ done tt) (sym z) c.0) D.0 D.1)

pub can-go-back : CanGoBack
unfolding CanGoBack
can-go-back a t w h from len x b e =
    let D = done-law InsertRange Laid lays a t w h from len x b e in
    goes_back a t w h D.0 from len x D.1 D.2 D.3.0 D.3.1
