-- A drawing that nobody has open rests: what was saved is there, whatever is called.
use mathlib.Core.Path.{◌≡◌, refl, sym, ap, ◌∙◌, subst}
use mathlib.Core.Bool.{true, false}
use mathlib.Core.List.{List}
use Prim.Native.Nat.{ℕ}
use lib.ListN.{length}
use Rattle.base.specs.Out.{Out, done, refused, answer, kept}
use Rattle.base.proofs.Bools.{true-false}
use Rattle.structs.specs.Types.{is_folder}
use Rattle.arena.specs.Fields.{file}
use Rattle.files.specs.Read.{there, length_of}
use Rattle.files_laws.specs.Laws.{Kept}
use Rattle.table.specs.declared.Handle.{Handle}
use Rattle.sefs.specs.Contents.{call_read}
use Rattle.rules.specs.Image.{is_node, rec_of, is_folder_at}
use Rattle.sequences.specs.Pairs.{Pair, Passed}
use Rattle.sequences.specs.Calls.{Call, does, next}
use Rattle.sequences.specs.Promises.{Along, ends, goes, On, SameFile, Keeps}
use Rattle.sequences.proofs.Passing.{allowed}
use Rattle.sequences.proofs.Sequences.{keeps}
use Rattle.sequences.proofs.Tracks.{tracks-rec}
use Rattle.sequences.proofs.Bytes.{Intact, left}
use Rattle.sequences.proofs.Reading.{node-is, file-is, read-no-folder}
use Rattle.drawings.specs.Saved.{led, Saves}
use Rattle.drawings.specs.Rests.{Drawing, SameNode, LeavesBe, Rests, Rested, RestsAlong, NodeNamed, NodeHeld, GoneOnly, ClosedAndKept, ReadRests}
use Rattle.drawings.proofs.Saved.{same_reads, after-save, read-saved}

-- ---- one call

no-folder-at : (p : Pair) (n : ℕ) → Drawing n p → is_folder_at p.arena p.table n ≡ false
unfolding is_folder_at
no-folder-at p n D = rw (D.node, D.no-folder) refl

-- "a non-folder's file length is its size"
size_is : (p : Pair) (n : ℕ) → Passed p → Drawing n p → length_of p.arena (file 1 (rec_of p.arena p.table n).file) ≡ (rec_of p.arena p.table n).size
size_is p n y D = (allowed p y).rule6.size n D.node (no-folder-at p n D)

same_self : (n : ℕ) (p : Pair) → SameNode n p p
same_self n p = record { kind = refl; file = refl; size = refl; bytes = record { long = refl; bytes = λ i. refl } }

-- what a call left, in a pair that passes and has the node
same_left : (p q : Pair) (n : ℕ) → Passed p → Drawing n p → Passed q → is_node q.arena n ≡ true → Intact p (rec_of p.arena p.table n).file q.arena q.table → SameNode n p q
same_left p q n y D z M L =
    let w = tracks-rec n (rec_of p.arena p.table n).kind (rec_of p.arena p.table n).file q.arena q.table (L.1 n D.node) in
    let K : Kept p.arena q.arena (file 1 (rec_of p.arena p.table n).file) = L.0 (ap (λ (x : List ℕ). there q.arena (file 1 x)) (sym w.file) ∙ (allowed q z).rule5.own n M) in
    record {
      kind = w.kind;
      file = w.file;
      size = sym (size_is q n z (record { node = M; no-folder = ap is_folder w.kind ∙ D.no-folder })) ∙ ap (λ (x : List ℕ). length_of q.arena (file 1 x)) w.file ∙ K.long ∙ size_is p n y D;
      bytes = record { long = K.long; bytes = K.byte };
    }

pub rests : Rests
unfolding Rests Keeps
rests p c n y D e = by (does c p) refl
  where
    by : (o : Out Pair) → does c p ≡ o → SameNode n p (next c p)
    by (done q) d =
        same_left p (next c p) n y D (keeps p c y e.fits).passes e.stays-node
        (left p y n D.node D.no-folder c e.fits (λ g. e.not_written g (ap answer d)))
    by (refused m) d = subst (SameNode n p) (sym (ap (kept p) d)) (same_self n p)

-- ---- any list of calls

same_then : (n : ℕ) (p q r : Pair) → SameNode n p q → SameNode n q r → SameNode n p r
same_then n p q r s u =
    let b : SameFile (rec_of p.arena p.table n).file q.arena r.arena = subst (λ (x : List ℕ). SameFile x q.arena r.arena) s.file u.bytes in
    record {
      kind = u.kind ∙ s.kind;
      file = u.file ∙ s.file;
      size = u.size ∙ s.size;
      bytes = record { long = b.long ∙ s.bytes.long; bytes = λ i. b.bytes i ∙ s.bytes.bytes i };
    }

-- one call more
pub one_more_lem : (n : ℕ) (p q : Pair) (c : Call) → Rested n p q → LeavesBe n c q → Rested n p (next c q)
unfolding Rests Keeps
one_more_lem n p q c R e =
    let s : SameNode n q (next c q) = rests q c n R.passes R.drawing e in
    record {
      passes = (keeps q c R.passes e.fits).passes;
      drawing = record { node = e.stays-node; no-folder = ap is_folder s.kind ∙ R.drawing.no-folder };
      same = same_then n p q (next c q) R.same s;
    }

pub along : (n : ℕ) (p : Pair) (l : List Call) → Passed p → Drawing n p → Along (LeavesBe n) p l → Rested n p (led p l)
along n p l y D ends = record { passes = y; drawing = D; same = same_self n p }
along n p l y D (goes {c = c} {l = m} e r) =
    let S = one_more_lem n p p c (record { passes = y; drawing = D; same = same_self n p }) e in
    let R = along n (next c p) m S.passes S.drawing r in
    record { passes = R.passes; drawing = R.drawing; same = same_then n p (next c p) (led (next c p) m) S.same R.same }

pub rests-along : RestsAlong
unfolding RestsAlong
rests-along p l n y D e = along n p l y D e

-- ---- when a node stays one

pub node-named : NodeNamed
unfolding NodeNamed
node-named p d k n y N = ap (is_node p.arena) (sym N.names) ∙ (((allowed p y).rule6.folder d N.folder).later k N.later N.inside).node

pub node-held : NodeHeld
unfolding NodeHeld
node-held p w h n f y o = node-is p y o

pub gone-only : GoneOnly
unfolding GoneOnly NodeNamed NodeHeld
gone-only p n y e = record { unnamed = λ d k N. true-false (node-named p d k n y N) e; unheld = λ w h f o. true-false (node-held p w h n f y o) e }

-- ---- what she saved

-- where the node has rested, a read through a handle on it gives what it gave
rested-reads : (p r : Pair) {w v : ℕ} {h g : Handle} {n : ℕ} {f e : List ℕ} → Passed p → Rested n p r → On p.table w h n f → On r.table v g n e
    → (at room : ℕ) → call_read r.arena r.table v g at room ≡ call_read p.arena p.table w h at room
rested-reads p r {v = v} {g = g} {n = n} {f = f} {e = e} y R o u at room =
    let S = R.same in
    let F = file-is p y o in
    let x : e ≡ f = sym (file-is r R.passes u) ∙ S.file ∙ F in
    same_reads p r y R.passes o (subst (On r.table v g n) x u) S.kind (λ _. subst (λ (z : List ℕ). SameFile z p.arena r.arena) F S.bytes) at room

pub read-rests : ReadRests
unfolding ReadRests
read-rests p l w v h g n f e at room y D o calls u = rested-reads p (led p l) y (along n p l y D calls) o u at room

-- after her save, and through a handle on the node in any pair where it rests
pub saved-rests : (p q r : Pair) (w v : ℕ) (h g : Handle) (n : ℕ) (f e : List ℕ) (place : ℕ) (bytes : List ℕ) → Passed p → Saves w h n f place bytes p q
    → (Passed q → Drawing n q → Rested n q r × On r.table v g n e) → call_read r.arena r.table v g place (length bytes) ≡ done bytes
saved-rests p q r w v h g n f e place bytes y S rest =
    let A = after-save p q w h n f place bytes y S in
    let c = read-saved p q w h n f place bytes y S in
    let R = rest A.passes (record { node = node-is q A.passes A.on; no-folder = read-no-folder q A.passes A.on place (length bytes) bytes c }) in
    rested-reads q r A.passes R.0 A.on R.1 place (length bytes) ∙ c

pub closed-and-kept : ClosedAndKept
unfolding ClosedAndKept
closed-and-kept p q l w v h g n f e place bytes y S calls u = saved-rests p q (led q l) w v h g n f e place bytes y S (λ z D. (along n q l z D calls, u))
