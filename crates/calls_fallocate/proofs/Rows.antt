-- What the stores need and leave: where bytes were stored the node is as ready as it was, and how the steps of each mode end.
use mathlib.Core.Path.{◌≡◌, refl, sym, ◌∙◌, subst}
use mathlib.Core.Bool.{Bool, true, false}
use mathlib.Core.List.{List}
use Prim.Native.Nat.{ℕ, zero, suc, ◌+◌, ◌-◌, ◌≤◌, ◌<◌, min}
use native.Mathlib.Nat.{le_refl}
use native.Mathlib.Omega.{arith}
use lib.ListN.{length, replicate}
use lib.Dec.{eqb, ltb}
use borrow.Author.Tests.{lt-ltb, le-ltb, eq-eqb, ne_eqb}
use Rattle.base.specs.Out.{Out, done, refused, bind, Ok, went, said}
use Rattle.base.specs.Search.{pick}
use Rattle.base.proofs.Outs.{ok-bind, ok-weaken, ok-done, bind-is-done, above_zero}
use Rattle.le.specs.Le.{Bytes}
use Rattle.structs.specs.declared.DiskINode.{DiskINode}
use Rattle.table.specs.declared.Table.{Table}
use Rattle.table.specs.Table.{row_at}
use Rattle.arena.specs.Fields.{File}
use Rattle.arena.specs.Places.{head_of}
use Rattle.sound.specs.Sound.{sound}
use Rattle.files.specs.Read.{there, read_file}
use Rattle.files.specs.Store.{longest, touched, put_file, cut_file}
use Rattle.files_laws.proofs.Put.{put_is, put-upto, put_all}
use Rattle.sefs.specs.State.{Meta}
use Rattle.sefs.specs.Records.{with_size}
use Rattle.sefs.specs.Nodes.{node_file, set_rec}
use Rattle.sefs.specs.Ask.{start}
use Rattle.sefs.specs.Create.{After}
use Rattle.sefs.specs.Contents.{resize_steps}
use Rattle.sefs_laws.proofs.Rows.{Any, any}
use Rattle.pieces.specs.Pieces.{pieces, piece_len, rising, falling, zeros_to, write_zeros, copy_piece, down_to, copy_down, up_to, copy_up}
use Rattle.pieces.proofs.Pieces.{FilledTo, zeros_law, down-law, up-law}
use Rattle.ranges.specs.Ranges.{grow_steps, zero_steps, punch_steps, zero_range_steps, collapse_steps, insert_steps, mode_steps}
use Rattle.ranges.specs.declared.FallocateMode.{FallocateMode}
use Rattle.ranges.specs.declared.FallocateMode.TheVariants.{Allocate, CollapseRange, InsertRange}
use Rattle.range_stores.specs.Moves.{Movable, Insertable}
use Rattle.plans.specs.Plan.{Planned}
use Rattle.mem.specs.Mem.{table_in}
use Rattle.steps.specs.Ends.{ending, Ended, stopped}
use Rattle.sizes.specs.Sizes.{Reached, Sized}
use Rattle.calls_fallocate.specs.Fallocate.{Provided, HeadKnown, Supplied}
use Rattle.calls_fallocate.proofs.Questions.{no-zeros}
use Rattle.steps.specs.Ends as ends

-- ---- the file's head stays where it is

abbrev Stays : File → List ℕ → List ℕ → Type 0
Stays f a d = head_of d f ≡ head_of a f

then-stays : (f : File) (a d : List ℕ) {o : Out (List ℕ)} → Stays f a d → Ok (Stays f d) Any o → Ok (Stays f a) Any o
then-stays f a d p = ok-weaken (λ e q. q ∙ p) (λ n r. r)

put-stays : (a : List ℕ) (f : File) (pos : ℕ) (src : List ℕ) → Ok (Stays f a) Any (put_file a f pos src)
put-stays a f pos src = go (put_file a f pos src) refl
  where
    go : (o : Out (List ℕ)) → put_file a f pos src ≡ o → Ok (Stays f a) Any o
    go (done d) e =
        let P = put_is a f pos src d e in
        went (put-upto a f pos src P.was P.range (touched pos (length src)) d (le_refl (touched pos (length src))) (sym (put_all a f pos src P.was P.range) ∙ e)).head
    go (refused n) e = said tt

piece-stays : (a : List ℕ) (f : File) (src dst n : ℕ) → Ok (Stays f a) Any (copy_piece a f src dst n)
unfolding copy_piece
piece-stays a f src dst n = ok-bind (any (read_file a f src n)) λ l _. put-stays a f dst l

zeros-stay : (a : List ℕ) (f : File) (pos n k : ℕ) → Ok (Stays f a) Any (zeros_to a f pos n k)
unfolding zeros_to
zeros-stay a f pos n zero = went refl
zeros-stay a f pos n (suc k) = ok-bind (zeros-stay a f pos n k) λ d p. then-stays f a d p (put-stays d f (pos + rising k) (replicate (piece_len n k) 0))

down-stays : (a : List ℕ) (f : File) (src dst n k : ℕ) → Ok (Stays f a) Any (down_to a f src dst n k)
unfolding down_to
down-stays a f src dst n zero = went refl
down-stays a f src dst n (suc k) = ok-bind (down-stays a f src dst n k) λ d p. then-stays f a d p (piece-stays d f (src + rising k) (dst + rising k) (piece_len n k))

up-stays : (a : List ℕ) (f : File) (src dst n k : ℕ) → Ok (Stays f a) Any (up_to a f src dst n k)
unfolding up_to
up-stays a f src dst n zero = went refl
up-stays a f src dst n (suc k) = ok-bind (up-stays a f src dst n k) λ d p. then-stays f a d p (piece-stays d f (src + falling n k) (dst + falling n k) (piece_len n k))

-- ---- what the stores leave of a file

pub record Remains (a : List ℕ) (f : File) (d : List ℕ) : Type 0 where
  pub bytes : Bytes d
  pub fine : sound d ≡ true
  pub exists : there d f ≡ there a f
  pub head : head_of d f ≡ head_of a f

filled-remains : {a : List ℕ} {f : File} {top : ℕ} {d : List ℕ} → FilledTo a f top d → Stays f a d → Remains a f d
filled-remains F p = record { bytes = F.bytes; fine = F.keeps; exists = F.exists; head = p }

module _ (a : List ℕ) (f : File) (B : Bytes a) (fine : sound a ≡ true) where
  same-remains : (d : List ℕ) → done a ≡ done d → Remains a f d
  same-remains d e = let q : a ≡ d = cc in subst (Remains a f) q (record { bytes = B; fine = fine; exists = refl; head = refl })

  pub zeros-remain : (pos n : ℕ) (d : List ℕ) → write_zeros a f pos n ≡ done d → Remains a f d
  unfolding write_zeros
  zeros-remain pos n d e =
      filled-remains (ok-done (subst (Ok _ Any) e (zeros_law a f pos n B fine Any tt (λ _. tt)))).filled
      (ok-done (subst (Ok (Stays f a) Any) e (zeros-stay a f pos n (pieces n))))

  down-remains : (src dst n : ℕ) (d : List ℕ) → dst ≤ src → copy_down a f src dst n ≡ done d → Remains a f d
  unfolding copy_down
  down-remains src dst n d l e =
      filled-remains (ok-done (subst (Ok _ Any) e (down-law a f src dst n B fine Any tt (λ _. tt) (λ _. tt) l))).filled
      (ok-done (subst (Ok (Stays f a) Any) e (down-stays a f src dst n (pieces n))))

  up-remains : (src dst n : ℕ) (d : List ℕ) → src ≤ dst → copy_up a f src dst n ≡ done d → Remains a f d
  unfolding copy_up
  up-remains src dst n d l e =
      filled-remains (ok-done (subst (Ok _ Any) e (up-law a f src dst n B fine Any tt (λ _. tt) (λ _. tt) l))).filled
      (ok-done (subst (Ok (Stays f a) Any) e (up-stays a f src dst n (pieces n))))

  module _ (from len n : ℕ) (d : List ℕ) where
    pub taken-remains : pick (eqb len 0) (done a) (copy_down a f (from + len) from n) ≡ done d → Remains a f d
    taken-remains = go (eqb len 0)
      where
        go : (b : Bool) → pick b (done a) (copy_down a f (from + len) from n) ≡ done d → Remains a f d
        go true e = same-remains d e
        go false e = down-remains (from + len) from n d (omega arith) e

    moved-remains : pick (eqb len 0) (done a) (copy_up a f from (from + len) n) ≡ done d → Remains a f d
    moved-remains = go (eqb len 0)
      where
        go : (b : Bool) → pick b (done a) (copy_up a f from (from + len) n) ≡ done d → Remains a f d
        go true e = same-remains d e
        go false e = up-remains from (from + len) n d (omega arith) e

pub put-remains : (a : List ℕ) (f : File) → Bytes a → sound a ≡ true → (from len n : ℕ) (d : List ℕ)
    → bind (pick (eqb len 0) (done a) (copy_up a f from (from + len) n)) (λ c. write_zeros c f from len) ≡ done d → Remains a f d
put-remains a f B fine from len n d e =
    let p = bind-is-done (pick (eqb len 0) (done a) (copy_up a f from (from + len) n)) (λ c. write_zeros c f from len) d e in
    let M = moved-remains a f B fine from len n p.0 p.1 in
    let Z = zeros-remain p.0 f M.bytes M.fine from len d p.2 in
    record { bytes = Z.bytes; fine = Z.fine; exists = Z.exists ∙ M.exists; head = Z.head ∙ M.head }

-- the node is as ready as it was
pub remains-reached : {a d : List ℕ} {t : Table} {i k end : ℕ} (m : ℕ) (w : DiskINode) → w ≡ (row_at t i).rec → Reached a t i k end → Remains a (node_file w) d → m ≤ longest
    → Reached d t i k m
remains-reached {a} {d} {t} {i} m w is R M l =
    let N : Remains a (node_file (row_at t i).rec) d = rw is at M in
    record { row = R.row; range = l; fine = N.fine; exists = N.exists ∙ R.exists; head = R.head ∙ sym N.head }

-- ---- what the stores need

pub supplied-known : {a : List ℕ} {t : Table} {i k : ℕ} {mode : FallocateMode} {from len : ℕ} {places source : List ℕ} (w : DiskINode) → w ≡ (row_at t i).rec
    → Supplied a t i k mode from len places source → HeadKnown a (node_file w) k × Provided mode a (node_file w) w.size from len places source
supplied-known w is S = rw is (record { most = S.most; fine = S.reached.fine; exists = S.reached.exists; head = S.reached.head }, S.supply)

module _ {a : List ℕ} {f : File} {k : ℕ} {places source : List ℕ} (size from len : ℕ) (H : HeadKnown a f k) where
  pub movable : Provided CollapseRange a f size from len places source → (len ≡ 0 → ⊥) → Movable a f k (from + len) from (size - (from + len)) places source × (from ≤ from + len)
  movable P z =
      let C = P.2 (above_zero len z) in
      let l : from + len < size = P.0 in (
        record {
          most = H.most;
          fine = H.fine;
          exists = H.exists;
          head = H.head;
          some = omega arith;
          long = omega (arith, C.long);
          range = omega (arith, P.1);
          plan = C.plan;
          read = C.read;
        },
        omega arith,
      )

  pub insertable : Provided InsertRange a f size from len places source → (len ≡ 0 → ⊥) → Insertable a f k from len (size - from) places source
  insertable P z =
      let C = P.2 (above_zero len z) in
      let l : from < size = P.0 in
      record {
        most = H.most;
        fine = H.fine;
        exists = H.exists;
        head = H.head;
        some = omega arith;
        long = omega (arith, C.long);
        range = omega (arith, P.1);
        plan = C.plan;
        read = C.read;
      }

-- the part that lies below the size has a plan
pub punch-planned : {a : List ℕ} {t : Table} {i k low high : ℕ} {places : List ℕ} (from len : ℕ) (w : DiskINode) → w ≡ (row_at t i).rec → low ≡ min from w.size
    → high ≡ min (from + len) w.size → Reached a t i k (from + len)
    → Planned a (node_file (row_at t i).rec) (min from (row_at t i).rec.size) (min (from + len) (row_at t i).rec.size - min from (row_at t i).rec.size) places
    → ((low + (high - low) ≤ longest) × ((there a (node_file w) ≡ true) × (k ≡ head_of a (node_file w)))) × Planned a (node_file w) low (high - low) places
punch-planned from len w is l h R P = ((omega (arith, R.range), rw is (R.exists, R.head)), rw (l, h, is) P)

-- an empty range moves nothing
module _ (a : List ℕ) (f : File) (from len n : ℕ) where
  pub take_none : len ≡ 0 → pick (eqb len 0) (done a) (copy_down a f (from + len) from n) ≡ done a
  take_none e = rw (eq-eqb len 0 e)

  pub take-some : (d : List ℕ) → (len ≡ 0 → ⊥) → copy_down a f (from + len) from n ≡ done d → pick (eqb len 0) (done a) (copy_down a f (from + len) from n) ≡ done d
  take-some d z e = rw (ne_eqb len 0 z) e

  pub put-none : len ≡ 0 → bind (pick (eqb len 0) (done a) (copy_up a f from (from + len) n)) (λ d. write_zeros d f from len) ≡ done a
  put-none e = rw (eq-eqb len 0 e) (no-zeros a f from len e)

  pub put_some : (b : List ℕ) → (len ≡ 0 → ⊥) → bind (copy_up a f from (from + len) n) (λ d. write_zeros d f from len) ≡ done b
      → bind (pick (eqb len 0) (done a) (copy_up a f from (from + len) n)) (λ d. write_zeros d f from len) ≡ done b
  put_some b z e = rw (ne_eqb len 0 z) e

-- ---- how the steps end

module _ (a m : List ℕ) (i end : ℕ) where
  pub grew-not : end ≤ (row_at (table_in m) i).rec.size → Ended (ending (grow_steps (start a (table_in m)) i end)) a a (table_in m) 0
  unfolding grow_steps
  grew-not l = ends.went (rw (le-ltb (row_at (table_in m) i).rec.size end l))

  pub grew : (b n : List ℕ) → (row_at (table_in m) i).rec.size < end → Sized a b m n i end → Ended (ending (grow_steps (start a (table_in m)) i end)) a b (table_in n) 0
  unfolding grow_steps resize_steps
  grew b n l S = ends.went (rw (lt-ltb (row_at (table_in m) i).rec.size end l, S.arena, S.table))

-- superblock and maps are not looked at
grow-alike : (d : List ℕ) (t : Table) (x y : Out Meta) (i end : ℕ)
    → ending (grow_steps (record { arena = d; table = t; meta = x }) i end) ≡ ending (grow_steps (record { arena = d; table = t; meta = y }) i end)
unfolding grow_steps resize_steps
grow-alike d t x y i end = go (ltb (row_at t i).rec.size end) (cut_file d (node_file (row_at t i).rec) end)
  where
    go : (b : Bool) (o : Out (List ℕ))
        → ending (pick b (bind o (λ c. done (set_rec (record { arena = c; table = t; meta = x }) i (with_size (row_at t i).rec end)))) (done (record { arena = d; table = t; meta = x })))
        ≡ ending (pick b (bind o (λ c. done (set_rec (record { arena = c; table = t; meta = y }) i (with_size (row_at t i).rec end)))) (done (record { arena = d; table = t; meta = y })))
    go true (done c) = refl
    go true (refused n) = refl
    go false o = refl

ended-went : {o : Out After} {a b : List ℕ} {u : Table} {r : ℕ} → r ≡ 0 → Ended o a b u r → o ≡ done (record { arena = b; table = u })
ended-went z (ends.went e) = e
ended-went z (stopped l e k) = absurd (omega arith)

module _ (a d m : List ℕ) (i from len : ℕ) (w : DiskINode) (is : w ≡ (row_at (table_in m) i).rec) where
  pub punched : (low high : ℕ) → low ≡ min from w.size → high ≡ min (from + len) w.size → write_zeros a (node_file w) low (high - low) ≡ done d
      → Ended (ending (punch_steps (start a (table_in m)) i from len)) a d (table_in m) 0
  unfolding punch_steps zero_steps
  punched low high l h e =
      let q : write_zeros a (node_file w) (min from w.size) (min (from + len) w.size - min from w.size) ≡ done d = rw (l, h) at e in
      ends.went (rw (← is, q))

  pub zeroed : (b : List ℕ) (u : Table) → write_zeros a (node_file w) from len ≡ done d → Ended (ending (grow_steps (start d (table_in m)) i (from + len))) d b u 0
      → Ended (ending (zero_range_steps (start a (table_in m)) i from len)) a b u 0
  unfolding zero_range_steps zero_steps
  zeroed b u e g = ends.went (rw (← is, e) (grow-alike d (table_in m) (start a (table_in m)).meta (start d (table_in m)).meta i (from + len) ∙ ended-went refl g))

  module _ (b n : List ℕ) where
    pub collapsed : pick (eqb len 0) (done a) (copy_down a (node_file w) (from + len) from (w.size - (from + len))) ≡ done d → Sized d b m n i (w.size - len)
        → Ended (ending (collapse_steps (start a (table_in m)) i from len)) a b (table_in n) 0
    unfolding collapse_steps resize_steps
    collapsed e S =
        let q : pick (eqb len 0) (done a) (copy_down a (node_file (row_at (table_in m) i).rec) (from + len) from ((row_at (table_in m) i).rec.size - (from + len))) ≡ done d = rw is at e in
        let T : Sized d b m n i ((row_at (table_in m) i).rec.size - len) = rw is at S in
        ends.went (rw (q, T.arena, T.table))

    pub inserted : bind (pick (eqb len 0) (done a) (copy_up a (node_file w) from (from + len) (w.size - from))) (λ c. write_zeros c (node_file w) from len) ≡ done d
        → Sized d b m n i (w.size + len) → Ended (ending (insert_steps (start a (table_in m)) i from len)) a b (table_in n) 0
    unfolding insert_steps zero_steps resize_steps
    inserted e S =
        let f : File = node_file (row_at (table_in m) i).rec in
        let x : Out (List ℕ) = pick (eqb len 0) (done a) (copy_up a (node_file (row_at (table_in m) i).rec) from (from + len) ((row_at (table_in m) i).rec.size - from)) in
        let p = bind-is-done x (λ c. write_zeros c f from len) d (rw is at e) in
        let T : Sized d b m n i ((row_at (table_in m) i).rec.size + len) = rw is at S in
        ends.went (rw (p.1, p.2, T.arena, T.table))

-- ---- by the mode's name

pub supplied-as : {mode m : FallocateMode} {a : List ℕ} {t : Table} {i k from len : ℕ} {places source : List ℕ} → mode ≡ m → Supplied a t i k mode from len places source
    → Supplied a t i k m from len places source
supplied-as e S = rw e at S

pub ended-as : {mode m : FallocateMode} {a b : List ℕ} {u : Table} (t : Table) (i from len : ℕ) → mode ≡ m → Ended (ending (mode_steps m (start a t) i from len)) a b u 0
    → Ended (ending (mode_steps mode (start a t) i from len)) a b u 0
ended-as t i from len e g = rw e g

pub allocated : {mode : FallocateMode} {keep : Bool} {a b : List ℕ} {u : Table} (t : Table) (i from len : ℕ) → mode ≡ Allocate keep → keep ≡ false
    → Ended (ending (grow_steps (start a t) i (from + len))) a b u 0 → Ended (ending (mode_steps mode (start a t) i from len)) a b u 0
allocated t i from len e z g = rw (e, z) g
