-- The support call: what was saved is what is read.
use mathlib.Core.Path.{◌≡◌, refl, sym, ap, ◌∙◌, subst}
use mathlib.Core.Bool.{Bool, true, false}
use mathlib.Core.List.{List}
use mathlib.Core.Logic.{◌≢◌, ⊎_elim}
use Prim.Native.Nat.{ℕ, ◌+◌, ◌-◌, ◌≤◌, ◌<◌, min, max}
use native.Mathlib.Omega.{arith}
use lib.ListN.{length, take, get_or, length-take, get_or-eq_default}
use lib.Seq.{get_or-take}
use Rattle.base.specs.Out.{Out, done, refused, answer, kept}
use Rattle.base.specs.Parts.{part, paste, tab}
use Rattle.base.proofs.Outs.{bind-is-done}
use Rattle.base.proofs.Bools.{bool_cases}
use Rattle.base.proofs.Lists.{get_or-tab, tab-cong, length-paste, get_or-paste-in, get_or-paste-out}
use Rattle.base.proofs.Numbers.{lt-or-le}
use Rattle.std.specs.Prelude.{Some}
use Rattle.structs.specs.Types.{is_folder}
use Rattle.arena.specs.Fields.{file}
use Rattle.files.specs.Read.{length_of, byte_at}
use Rattle.table.specs.declared.Table.{Table}
use Rattle.table.specs.declared.Row.{Row}
use Rattle.table.specs.declared.Handle.{Handle}
use Rattle.table.specs.Table.{row_at, live_row}
use Rattle.table_laws.proofs.Handles.{live-means}
use Rattle.sefs.specs.Nodes.{node_file}
use Rattle.sefs.specs.Create.{After}
use Rattle.sefs.specs.Contents.{read_count, call_read, call_write, call_resize}
use Rattle.sefs_laws.specs.Contents.{file_at, Exact, Only, Written, IsWritten, WrittenRead, Resized, IsResized}
use Rattle.sefs_laws.proofs.Contents.{is-written, written_read, is-resized}
use Rattle.rules.specs.Image.{rec_of}
use Rattle.sequences.specs.Pairs.{Pair, pair, Passed}
use Rattle.sequences.specs.Calls.{Call, write, resize, close, Fits, does, next}
use Rattle.sequences.specs.Promises.{Along, ends, goes, On, SameFile, Through, writes, Safe, Keeps}
use Rattle.sequences.proofs.Sequences.{keeps}
use Rattle.sequences.proofs.Spared.{spared}
use Rattle.sequences.proofs.Reading.{read-folder, read-file, WholeFile, whole-file}
use Rattle.drawings.specs.Saved.{led, Saves, Elsewhere, Reads, Saved, BothSaved, ReadStays, filled_to, LaidOver, ResizedTo}
use Rattle.drawings.proofs.Lists.{part-tab, filled-long, filled_at}

-- ---- calls that leave the node

-- q passes as p did, her handle is on the same node, of the same type, and reads as it read
record Undisturbed (w : ℕ) (h : Handle) (n : ℕ) (f : List ℕ) (p q : Pair) : Type 0 where
  passes : Passed q
  on : On q.table w h n f
  reads : (at room : ℕ) → call_read q.arena q.table w h at room ≡ call_read p.arena p.table w h at room

-- two handles on a node with the same file read the same
pub same_reads : (p q : Pair) → Passed p → Passed q → {w v : ℕ} {h g : Handle} {n : ℕ} {f : List ℕ} → On p.table w h n f → On q.table v g n f
    → (rec_of q.arena q.table n).kind ≡ (rec_of p.arena p.table n).kind → (is_folder (rec_of p.arena p.table n).kind ≡ false → SameFile f p.arena q.arena)
    → (at room : ℕ) → call_read q.arena q.table v g at room ≡ call_read p.arena p.table w h at room
same_reads p q y z {n = n} {f = f} o u kind same at room = ⊎_elim
    (λ dir. read-folder q z u (ap is_folder kind ∙ dir) at room ∙ sym (read-folder p y o dir at room))
    (λ no-dir.
    let s : SameFile f p.arena q.arena = same no-dir in
    read-file q z u (ap is_folder kind ∙ no-dir) at room
    ∙ ap done (ap (λ (m : ℕ). tab (byte_at q.arena (file 1 f)) at (read_count m at room)) s.long
    ∙ tab-cong (byte_at q.arena (file 1 f)) (byte_at p.arena (file 1 f)) at at (read_count (length_of p.arena (file 1 f)) at room) (λ i _. s.bytes (at + i)))
    ∙ sym (read-file p y o no-dir at room))
    (bool_cases (is_folder (rec_of p.arena p.table n).kind))

module _ {w : ℕ} {h : Handle} {n : ℕ} {f : List ℕ} where
  undisturbed-by : (p : Pair) (c : Call) → Passed p → On p.table w h n f → Elsewhere w h n c p → Undisturbed w h n f p (next c p)
  unfolding Keeps
  undisturbed-by p c y o e =
      let z : Passed (next c p) = (keeps p c y e.fits).passes in
      let S : Safe w h n f c p = spared p c w h n f y o (record { fits = e.fits; not-closed = e.not-closed }) z in
      record { passes = z; on = S.stays; reads = same_reads p (next c p) y z o S.stays S.kind (λ no-dir. same S no-dir (does c p) refl) }
    where
      same : Safe w h n f c p → is_folder (rec_of p.arena p.table n).kind ≡ false → (x : Out Pair) → does c p ≡ x → SameFile f p.arena (next c p).arena
      same S no-dir (done q) d = S.same no-dir (λ g. e.not_written g (ap answer d))
      same S no-dir (refused m) d =
          let q : next c p ≡ p = ap (kept p) d in
          subst (λ (x : Pair). SameFile f p.arena x.arena) (sym q) (record { long = refl; bytes = λ i. refl })

  undisturbed-then : {p q r : Pair} → Undisturbed w h n f p q → Undisturbed w h n f q r → Undisturbed w h n f p r
  undisturbed-then s u = record { passes = u.passes; on = u.on; reads = λ at room. u.reads at room ∙ s.reads at room }

  undisturbed-along : (p : Pair) (l : List Call) → Passed p → On p.table w h n f → Along (Elsewhere w h n) p l → Undisturbed w h n f p (led p l)
  undisturbed-along p l y o ends = record { passes = y; on = o; reads = λ at room. refl }
  undisturbed-along p l y o (goes {c = c} {l = m} e r) =
      let s : Undisturbed w h n f p (next c p) = undisturbed-by p c y o e in
      undisturbed-then s (undisturbed-along (next c p) m s.passes s.on r)

pub read_stays : ReadStays
unfolding ReadStays
read_stays p l w h n f at room y o e = (undisturbed-along p l y o e).reads at room

-- ---- a call that is done

write-no-close : (w v : ℕ) (h g : Handle) (place : ℕ) (bytes : List ℕ) → write v g place bytes ≢ close w h
write-no-close w v h g place bytes e = let z : ◌≡◌ {A = ℕ} 0 1 = cc in omega arith

resize-no-close : (w : ℕ) (h : Handle) (n : ℕ) → resize w h n ≢ close w h
resize-no-close w h n e = let z : ◌≡◌ {A = ℕ} 0 1 = cc in omega arith

-- q is what call c left: it passes, and w's handle h is on the node that it was on, of the type that it was
pub record AfterDone (w : ℕ) (h : Handle) (n : ℕ) (f : List ℕ) (c : Call) (p q : Pair) : Type 0 where
  pub is : next c p ≡ q
  pub passes : Passed q
  pub on : On q.table w h n f
  pub kind : (rec_of q.arena q.table n).kind ≡ (rec_of p.arena p.table n).kind

after-done : {w : ℕ} {h : Handle} {n : ℕ} {f : List ℕ} (c : Call) (p q : Pair) → Passed p → On p.table w h n f → Fits c → c ≢ close w h → does c p ≡ done q → AfterDone w h n f c p q
unfolding Keeps
after-done {w} {h} {n} {f} c p q y o fits not e =
    let i : next c p ≡ q = ap (kept p) e in
    let z : Passed (next c p) = (keeps p c y fits).passes in
    let S : Safe w h n f c p = spared p c w h n f y o (record { fits = fits; not-closed = not }) z in
    record {
      is = i;
      passes = subst Passed i z;
      on = subst (λ (x : Pair). On x.table w h n f) i S.stays;
      kind = subst (λ (x : Pair). (rec_of x.arena x.table n).kind ≡ (rec_of p.arena p.table n).kind) i S.kind;
    }

-- what a write left
wrote : (p q : Pair) (w : ℕ) (h : Handle) (place : ℕ) (bytes : List ℕ) → does (write w h place bytes) p ≡ done q → (x : After) × (call_write p.arena p.table w h place bytes ≡ done x) × (pair x.arena x.table ≡ q)
unfolding does
wrote p q w h place bytes e =
    let d = bind-is-done (call_write p.arena p.table w h place bytes) (λ x. done (pair x.arena x.table)) q e in
    (d.0, d.1, ap (kept p) d.2)

-- ---- what she wrote

module _ (p q : Pair) (w : ℕ) (h : Handle) (n : ℕ) (f : List ℕ) (place : ℕ) (bytes : List ℕ) (y : Passed p) (S : Saves w h n f place bytes p q) where
  pub after-save : AfterDone w h n f (write w h place bytes) p q
  after-save = after-done (write w h place bytes) p q y S.on S.fits (write-no-close w w h h place bytes) S.leads

  pub read-saved : call_read q.arena q.table w h place (length bytes) ≡ done bytes
  unfolding WrittenRead
  read-saved =
      let d = wrote p q w h place bytes S.leads in
      subst (λ (x : Pair). call_read x.arena x.table w h place (length bytes) ≡ done bytes) d.2
      (written_read p.arena p.table w h place bytes d.0 y.typed.bytes S.fits.3 d.1)

  -- and then calls that leave the node
  undisturbed-saved : (l : List Call) → Along (Elsewhere w h n) q l → Undisturbed w h n f q (led q l)
  undisturbed-saved l along = undisturbed-along q l after-save.passes after-save.on along

  still-reads : (r : Pair) → Undisturbed w h n f q r → Reads w h n f place bytes r
  still-reads r U = record { on = U.on; gives = U.reads place (length bytes) ∙ read-saved }

pub saved : Saved
unfolding Saved
saved p q l w h n f place bytes y S along = still-reads p q w h n f place bytes y S (led q l) (undisturbed-saved p q w h n f place bytes y S l along)

-- ---- and a colleague's

through-own : {n : ℕ} {t : Table} {v : ℕ} {g : Handle} {place : ℕ} {bytes : List ℕ} → Through n t (write v g place bytes) → (i : ℕ) × (live_row t v g ≡ Some i) × ((row_at t i).id ≡ n)
through-own (writes {i = i} e q) = (i, e, q)

-- his write through a handle on another node is elsewhere
his-elsewhere : (p : Pair) (w v : ℕ) (h g : Handle) (n m : ℕ) (e : List ℕ) (at : ℕ) (his : List ℕ) → On p.table v g m e → m ≢ n → Fits (write v g at his) → Elsewhere w h n (write v g at his) p
his-elsewhere p w v h g n m e at his o d fits = record {
  fits = fits;
  not-closed = write-no-close w v h g at his;
  not_written = λ x _.
      let z = through-own x in
      let i : z.0 ≡ o.row = sym ((live-means p.table v g z.0).0 z.1).names ∙ ((live-means p.table v g o.row).0 o.live).names in
      d (sym o.node ∙ (ap (λ (j : ℕ). (row_at p.table j).id) (sym i) ∙ z.2));
}

pub both-saved : BothSaved
unfolding BothSaved Saved
both-saved p q r l k w v h g n m f e place at hers his y S along d T alongw alongv =
    let U = undisturbed-saved p q w h n f place hers y S l along in
    let A = after-save (led q l) r v g m e at his U.passes T in
    let Z = subst (Undisturbed w h n f (led q l)) A.is (undisturbed-by (led q l) (write v g at his) U.passes U.on (his-elsewhere (led q l) w v h g n m e at his T.on d T.fits)) in (
      still-reads p q w h n f place hers y S (led r k) (undisturbed-then U (undisturbed-then Z (undisturbed-along r k Z.passes Z.on alongw))),
      saved (led q l) r k v g m e at his U.passes T alongv,
    )

-- ---- any read after a write or a resize

-- a file that holds a text is read as its parts
pub text-read : (p : Pair) → Passed p → {w : ℕ} {h : Handle} {n : ℕ} {f : List ℕ} → On p.table w h n f → is_folder (rec_of p.arena p.table n).kind ≡ false → (text : List ℕ)
    → length_of p.arena (file 1 f) ≡ length text → ((j : ℕ) → j < length text → byte_at p.arena (file 1 f) j ≡ get_or text j 0)
    → (at room : ℕ) → call_read p.arena p.table w h at room ≡ done (part text at (at + room))
text-read p y {f = f} o no-dir text long bytes at room =
    read-file p y o no-dir at room
    ∙ ap done (ap (λ (m : ℕ). tab (byte_at p.arena (file 1 f)) at (read_count m at room)) long ∙ part-tab text (byte_at p.arena (file 1 f)) at room bytes)

-- the length of a file whose row says so
sized-long : (a : List ℕ) (t : Table) (i : ℕ) (x : After) (m : ℕ) (dirty : Bool) → Only a t i m dirty x → Exact x.arena x.table i → length_of x.arena (file_at t i) ≡ m
sized-long a t i x m dirty O e = ap (λ (z : Row). length_of x.arena (node_file z.rec)) (sym O.row) ∙ e ∙ ap (λ (z : Row). z.rec.size) O.row

-- where w's handle is on a row whose file held `old`
module _ (p : Pair) (w : ℕ) (h : Handle) (old : List ℕ) (H : WholeFile p w h old) where
  abbrev i : ℕ
  i = H.row

  abbrev n : ℕ
  n = (row_at p.table H.row).id

  abbrev f : List ℕ
  f = (row_at p.table H.row).rec.file

  whole-on : On p.table w h n f
  whole-on = record { row = H.row; live = H.live; node = refl; file = refl }

  old-byte : (j : ℕ) → j < length old → get_or old j 0 ≡ byte_at p.arena (file 1 f) j
  old-byte j l = ap (λ (x : List ℕ). get_or x j 0) H.bytes ∙ get_or-tab (byte_at p.arena (file 1 f)) 0 (length old) j l ∙ ap (byte_at p.arena (file 1 f)) (let e : 0 + j ≡ j = omega arith in e)

  -- what a call c left is read as the text
  reads-left : (c : Call) (q : Pair) (x : After) → AfterDone w h n f c p q → pair x.arena x.table ≡ q → (text : List ℕ) → length_of x.arena (file 1 f) ≡ length text
      → ((j : ℕ) → j < length text → byte_at x.arena (file 1 f) j ≡ get_or text j 0) → (at room : ℕ) → call_read q.arena q.table w h at room ≡ done (part text at (at + room))
  reads-left c q x L e text long bytes at room =
      text-read q L.passes L.on (ap is_folder L.kind ∙ H.no-dir) text
      (subst (λ (z : Pair). length_of z.arena (file 1 f) ≡ length text) e long)
      (λ j l. subst (λ (z : Pair). byte_at z.arena (file 1 f) j ≡ get_or text j 0) e (bytes j l)) at room

  module _ (place : ℕ) (new : List ℕ) (x : After) (W : Written p.arena p.table H.row place new x) where
    abbrev base : List ℕ
    base = filled_to (place + length new) old

    fits : place + length new ≤ length base
    fits = omega (arith, filled-long (place + length new) old)

    laid-long : length_of x.arena (file 1 f) ≡ length (paste base place new)
    laid-long =
        sized-long p.arena p.table i x _ _ W.only (W.exact H.exact)
        ∙ ap (λ (m : ℕ). max m (place + length new)) (sym H.size)
        ∙ sym (length-paste base place new fits ∙ filled-long (place + length new) old)

    laid_out : (j : ℕ) → (place ≤ j → place + length new ≤ j) → j < max (length old) (place + length new) → byte_at x.arena (file 1 f) j ≡ get_or old j 0
    laid_out j out l =
        ⊎_elim
        (λ inside. W.outside j out (omega (arith, H.size)) ∙ sym (old-byte j inside))
        (λ past. W.hole H.exact j (omega (arith, H.size)) (⊎_elim (λ low. low) (λ high. absurd (omega (arith, out high))) (lt-or-le j place)) ∙ sym (get_or-eq_default old 0 past))
        (lt-or-le j (length old))

    laid-bytes : (j : ℕ) → j < length (paste base place new) → byte_at x.arena (file 1 f) j ≡ get_or (paste base place new) j 0
    laid-bytes j l =
        let k : j < max (length old) (place + length new) = omega (arith, length-paste base place new fits, filled-long (place + length new) old) in
        ⊎_elim
        (λ low. out j (λ z. absurd (omega arith)) k)
        (λ high. ⊎_elim
        (λ inside.
        let e : j ≡ place + (j - place) = omega arith in
        W.inside j high inside ∙ sym (ap (λ (m : ℕ). get_or (paste base place new) m 0) e ∙ get_or-paste-in base place new fits (j - place) (omega arith)))
        (λ past. out j (λ z. past) k)
        (lt-or-le j (place + length new)))
        (lt-or-le j place)
      where
        out : (j : ℕ) → (place ≤ j → place + length new ≤ j) → j < max (length old) (place + length new) → byte_at x.arena (file 1 f) j ≡ get_or (paste base place new) j 0
        out j z k = laid_out j z k ∙ sym (get_or-paste-out base place new fits j z ∙ filled_at (place + length new) old j k)

    laid-read : (q : Pair) → AfterDone w h n f (write w h place new) p q → pair x.arena x.table ≡ q → (at room : ℕ) → call_read q.arena q.table w h at room ≡ done (part (paste base place new) at (at + room))
    laid-read q L e = reads-left (write w h place new) q x L e (paste base place new) laid-long laid-bytes

  module _ (m : ℕ) (x : After) (R : Resized p.arena p.table H.row m x) where
    cut-long : length (take m (filled_to m old)) ≡ m
    cut-long = length-take m (filled_to m old) ∙ (ap (min m) (filled-long m old) ∙ omega arith)

    cut-bytes : (j : ℕ) → j < length (take m (filled_to m old)) → byte_at x.arena (file 1 f) j ≡ get_or (take m (filled_to m old)) j 0
    cut-bytes j l =
        let k : j < m = omega (arith, cut-long) in
        ⊎_elim
        (λ inside. R.below j k ∙ sym (old-byte j inside))
        (λ past. R.beyond j (omega (arith, H.size, H.exact)) ∙ sym (get_or-eq_default old 0 past))
        (lt-or-le j (length old))
        ∙ sym (get_or-take m (filled_to m old) j 0 k ∙ filled_at m old j (omega arith))

    cut-read : (q : Pair) → AfterDone w h n f (resize w h m) p q → pair x.arena x.table ≡ q → (at room : ℕ) → call_read q.arena q.table w h at room ≡ done (part (take m (filled_to m old)) at (at + room))
    cut-read q L e = reads-left (resize w h m) q x L e (take m (filled_to m old)) (sized-long p.arena p.table i x m true R.only R.exact ∙ sym cut-long) cut-bytes

pub laid-over : LaidOver
unfolding LaidOver IsWritten
laid-over p q w h place new old at room y R fits e =
    let H = whole-file p y w h old R.room R.gives R.spare in
    let d = wrote p q w h place new e in
    let W = is-written p.arena p.table w h H.row place new d.0 y.typed.bytes fits.3 H.live d.1 in
    laid-read p w h old H place new d.0 W q (after-done (write w h place new) p q y (whole-on p w h old H) fits (write-no-close w w h h place new) e) d.2 at room

pub resized-to : ResizedTo
unfolding ResizedTo IsResized does
resized-to p q w h n old at room y R fits e =
    let H = whole-file p y w h old R.room R.gives R.spare in
    let d = bind-is-done (call_resize p.arena p.table w h n) (λ x. done (pair x.arena x.table)) q e in
    let D = is-resized p.arena p.table w h H.row n d.0 y.typed.bytes H.live d.1 in
    cut-read p w h old H n d.0 D q (after-done (resize w h n) p q y (whole-on p w h old H) fits (resize-no-close w h n) e) (ap (kept p) d.2) at room
