-- What the call asks: question by question, and that it is its questions and then its steps.
use mathlib.Core.Path.{◌≡◌, refl, sym, ap, ◌∙◌, subst}
use mathlib.Core.Bool.{Bool, true, false, not, ◌&&◌, ◌||◌}
use mathlib.Core.List.{List}
use Prim.Native.Nat.{ℕ, suc, ◌+◌, ◌-◌, ◌≤◌, ◌<◌, min}
use native.Mathlib.Omega.{arith}
use lib.Dec.{eqb, ltb, leb}
use borrow.Author.Tests.{not-true, not-false, leb-true, ltb-true, ltb-false, lt-ltb, le-leb, lt-leb, eq-eqb, ne_eqb}
use Rattle.base.specs.Out.{Out, done, refused, bind, ensure, answer, Ok, went, said, Went}
use Rattle.base.specs.Search.{pick}
use Rattle.base.proofs.Bools.{same_bool, and_both, and_parts, true-false}
use Rattle.base.proofs.Outs.{went-is, went-has, went-not, ok-done}
use Rattle.le.specs.Le.{Bytes}
use Rattle.structs.specs.declared.DiskINode.{DiskINode}
use Rattle.table.specs.declared.Table.{Table}
use Rattle.table.specs.declared.Handle.{Handle}
use Rattle.table.specs.Table.{row_at}
use Rattle.arena.specs.Blocks.{blocks}
use Rattle.arena.specs.Fields.{File}
use Rattle.arena.specs.Places.{head_of}
use Rattle.sound.specs.Sound.{sound}
use Rattle.files.specs.Read.{there}
use Rattle.files.specs.Store.{longest}
use Rattle.sefs.specs.State.{Fs}
use Rattle.sefs.specs.Nodes.{node_file, rec_at}
use Rattle.sefs.specs.Ask.{admit, by_handle, start}
use Rattle.sefs.specs.Create.{after}
use Rattle.sefs.specs.Contents.{not_too_big}
use Rattle.sefs_laws.proofs.Rows.{Any}
use Rattle.pieces.specs.Pieces.{pieces, zeros_to, write_zeros}
use Rattle.ranges.specs.Ranges.{plain_file, aligned, fits_mode, grow_steps, zero_steps, punch_steps, zero_range_steps, mode_steps, call_fallocate}
use Rattle.ranges.specs.Says.{questions, says_on, looks, AsksFirst, FallocateSays}
use Rattle.ranges.specs.declared.FallocateMode.{FallocateMode}
use Rattle.ranges.specs.declared.FallocateMode.TheVariants.{Allocate, PunchHoleKeepSize, ZeroRange, ZeroRangeKeepSize, CollapseRange, InsertRange, Unknown}
use Rattle.ranges.proofs.Asks.{call-is, asked-law}
use Rattle.ranges.proofs.Answers.{asks-first, fallocate-says}
use Rattle.chains.specs.Led.{head_at}
use Rattle.calls.proofs.Asks.{Asks, asks-ensure, asks-then, asked-not, asked-done, answer-stop, answer-next}
use Rattle.steps.specs.Ends.{ending, Ended}
use Rattle.steps.proofs.Ends.{ended_is}
use Rattle.calls_fallocate.specs.Fallocate.{ask_range, Resolved, Supplied, Ranged}
use Rattle.calls_fallocate.specs.declared.Ranging.{Ranging}

-- ---- of a record: 21, 22, 6, 22

asks-plain : (r : DiskINode) → Asks (plain_file r)
unfolding plain_file
asks-plain r = asks-then (asks-ensure (leb r.kind 4) 19 (omega arith)) (λ _. asks-ensure (eqb r.kind 1) 21 (omega arith))

asks-fits : (mode : FallocateMode) (size from len : ℕ) → Asks (fits_mode mode size from len)
asks-fits (Allocate keep) size from len = went tt
asks-fits PunchHoleKeepSize size from len = went tt
asks-fits ZeroRange size from len = went tt
asks-fits ZeroRangeKeepSize size from len = went tt
asks-fits CollapseRange size from len = asks-ensure (ltb (from + len) size && (aligned from && aligned len)) 6 (omega arith)
asks-fits InsertRange size from len = asks-then (asks-ensure (ltb from size && (aligned from && aligned len)) 6 (omega arith)) (λ _. asks-ensure (leb (size + len) longest) 22 (omega arith))
asks-fits Unknown size from len = said {n = 6} (omega arith)

asks-range : (r : DiskINode) (mode : FallocateMode) (from len : ℕ) → Asks (ask_range r mode from len)
unfolding ask_range
asks-range r mode from len = asks-then (asks-plain r) (λ _. asks-then (asks-ensure (leb (from + len) longest) 22 (omega arith)) (λ _. asks-fits mode r.size from len))

module _ (r : DiskINode) where
  pub plain-above : 4 < r.kind → 19 ≡ answer (plain_file r)
  unfolding plain_file
  plain-above l = rw (lt-leb r.kind 4 l)

  pub plain_other : r.kind ≤ 4 → (r.kind ≡ 1 → ⊥) → 21 ≡ answer (plain_file r)
  unfolding plain_file
  plain_other l z = rw (le-leb r.kind 4 l, ne_eqb r.kind 1 z)

  pub plain-is : r.kind ≤ 4 → r.kind ≡ 1 → 0 ≡ answer (plain_file r)
  unfolding plain_file
  plain-is l z = rw (le-leb r.kind 4 l, eq-eqb r.kind 1 z)

module _ (r : DiskINode) (mode : FallocateMode) (from len n : ℕ) (e : n ≡ answer (plain_file r)) where
  pub record-stop : (n ≡ 0 → ⊥) → n ≡ answer (ask_range r mode from len)
  unfolding ask_range
  record-stop z = answer-stop (plain_file r) (λ _. bind (not_too_big (from + len)) (λ _. fits_mode mode r.size from len)) n e z

  module _ (z : n ≡ 0) (m : ℕ) (g : m ≡ answer (not_too_big (from + len))) where
    record-next : answer (bind (not_too_big (from + len)) (λ _. fits_mode mode r.size from len)) ≡ answer (ask_range r mode from len)
    unfolding ask_range
    record-next = answer-next (plain_file r) (λ _. bind (not_too_big (from + len)) (λ _. fits_mode mode r.size from len)) (asks-plain r) n e z

    pub end-stop : (m ≡ 0 → ⊥) → m ≡ answer (ask_range r mode from len)
    end-stop y = answer-stop (not_too_big (from + len)) (λ _. fits_mode mode r.size from len) m g y ∙ record-next

    pub fits_last : m ≡ 0 → answer (fits_mode mode r.size from len) ≡ answer (ask_range r mode from len)
    fits_last y = answer-next (not_too_big (from + len)) (λ _. fits_mode mode r.size from len) (asks-ensure (leb (from + len) longest) 22 (omega arith)) m g y ∙ record-next

-- an end that passed is in range
pub end-range : (end m : ℕ) → m ≡ answer (not_too_big end) → m ≡ 0 → end ≤ longest
end-range end m e z = go (leb end longest) refl (sym e ∙ z)
  where
    go : (b : Bool) → leb end longest ≡ b → answer (ensure b 22) ≡ 0 → end ≤ longest
    go true p f = leb-true end longest p
    go false p f = absurd (omega arith)

-- ---- whether the mode looks for the file

-- a part of the range lies below the size
pub looks-below : (size from len : ℕ) → (ltb from size && ltb 0 len) ≡ ltb (min from size) (min (from + len) size)
looks-below size from len =
    same_bool (ltb from size && ltb 0 len) (ltb (min from size) (min (from + len) size))
    (λ e. let p = and_parts (ltb from size) (ltb 0 len) e in lt-ltb (min from size) (min (from + len) size) (omega (arith, ltb-true from size p.0, ltb-true 0 len p.1)))
    (λ e. let l : min from size < min (from + len) size = ltb-true (min from size) (min (from + len) size) e in and_both (lt-ltb from size (omega arith)) (lt-ltb 0 len (omega arith)))

-- no zeros are no step
pub no-zeros : (a : List ℕ) (f : File) (pos n : ℕ) → n ≡ 0 → write_zeros a f pos n ≡ done a
unfolding write_zeros zeros_to
no-zeros a f pos n e = subst (λ (m : ℕ). zeros_to a f pos m (pieces m) ≡ done a) (sym e) refl

or-neither : (a b : Bool) → (a || b) ≡ false → (a ≡ false) × (b ≡ false)
or-neither true b e = absurd (let z : ◌≡◌ {A = ℕ} 0 1 = cc in omega arith)
or-neither false b e = (refl, e)

module _ (s : Fs) (i from len : ℕ) where
  grow-idle : ltb (rec_at s i).size (from + len) ≡ false → grow_steps s i (from + len) ≡ done s
  unfolding grow_steps
  grow-idle e = rw e

  punch-idle : ltb (min from (rec_at s i).size) (min (from + len) (rec_at s i).size) ≡ false → punch_steps s i from len ≡ done s
  unfolding punch_steps zero_steps
  punch-idle e =
      let g : min (from + len) (rec_at s i).size ≤ min from (rec_at s i).size = ltb-false _ _ e in
      rw (no-zeros s.arena (node_file (rec_at s i)) (min from (rec_at s i).size) (min (from + len) (rec_at s i).size - min from (rec_at s i).size) (omega arith))

  zero-idle : (ltb 0 len || ltb (rec_at s i).size (from + len)) ≡ false → zero_range_steps s i from len ≡ done s
  unfolding zero_range_steps zero_steps
  zero-idle e =
      let p = or-neither (ltb 0 len) (ltb (rec_at s i).size (from + len)) e in
      rw (no-zeros s.arena (node_file (rec_at s i)) from len (omega (arith, ltb-false 0 len p.0))) (grow-idle p.1)

  -- where it does not, it does nothing
  idle : (mode : FallocateMode) → fits_mode mode (rec_at s i).size from len ≡ done tt → looks mode (rec_at s i).size from len ≡ false → mode_steps mode s i from len ≡ done s
  idle (Allocate true) fit e = refl
  idle (Allocate false) fit e = grow-idle e
  idle PunchHoleKeepSize fit e = punch-idle e
  idle ZeroRange fit e = zero-idle e
  idle ZeroRangeKeepSize fit e = punch-idle e
  idle CollapseRange fit e = absurd (let z : ◌≡◌ {A = ℕ} 0 1 = cc in omega arith)
  idle InsertRange fit e = absurd (let z : ◌≡◌ {A = ℕ} 0 1 = cc in omega arith)
  idle Unknown fit e = absurd (let z : ◌≡◌ {A = ℕ} 0 1 = cc in omega arith)

-- ---- the call

-- an answer is one of three
module _ {a : List ℕ} {t : Table} {who : ℕ} {h : Handle} {mode : FallocateMode} {from len : ℕ} {places source : List ℕ} (r : Ranging) where
  pub ranged-off : (n : ℕ) → (n ≡ 0 → ⊥) → call_fallocate a t who h mode from len ≡ refused n → Ranged a t who h mode from len places source r n
  ranged-off n z q = record {
    refuses = λ _. q;
    idles = λ x _. absurd (z x);
    goes = λ x _. absurd (z x);
    supplied = λ x _. absurd (z x);
  }

  pub ranged-idle : r.idle ≡ true → call_fallocate a t who h mode from len ≡ done (after (start a t)) → Ranged a t who h mode from len places source r 0
  ranged-idle e q = record {
    refuses = λ z. absurd (z refl);
    idles = λ _ _. q;
    goes = λ _ x. absurd (true-false e x);
    supplied = λ _ x. absurd (true-false e x);
  }

  pub ranged-on : r.idle ≡ false → call_fallocate a t who h mode from len ≡ ending (mode_steps mode (start a t) r.row from len)
      → Supplied a t r.row r.head mode from len places source → Ranged a t who h mode from len places source r 0
  ranged-on e q S = record {
    refuses = λ z. absurd (z refl);
    idles = λ _ x. absurd (true-false x e);
    goes = λ _ _. q;
    supplied = λ _ _. S;
  }

-- what its stores leave is what the call leaves
pub ranged-ended : {a : List ℕ} {t : Table} {who : ℕ} {h : Handle} {mode : FallocateMode} {from len : ℕ} {places source : List ℕ} {r : Ranging} {b : List ℕ} {u : Table}
    → Ranged a t who h mode from len places source r 0 → r.idle ≡ false → Ended (ending (mode_steps mode (start a t) r.row from len)) a b u 0
    → Ended (call_fallocate a t who h mode from len) a b u 0
ranged-ended R x g = ended_is (R.goes refl x) g

-- all that is asked is answered: of row i, whose record is w
pub record AskedOf (a : List ℕ) (t : Table) (who : ℕ) (h : Handle) (mode : FallocateMode) (from len i : ℕ) (w : DiskINode) : Type 0 where
  pub answered : questions a t who h mode from len ≡ done i
  pub is : w ≡ (row_at t i).rec
  pub row : i < 34

module _ (a : List ℕ) (t : Table) (who : ℕ) (h : Handle) (mode : FallocateMode) (from len : ℕ) where
  pub call-unadmitted : {r : ℕ} → admit a t ≡ refused r → call_fallocate a t who h mode from len ≡ refused r
  unfolding call_fallocate
  call-unadmitted q = rw q

  module _ (k : admit a t ≡ done tt) {i r : ℕ} (g : Went (by_handle t who h) i (i < 34) r) where
    pub call-handle : (r ≡ 0 → ⊥) → call_fallocate a t who h mode from len ≡ refused r
    unfolding call_fallocate
    call-handle z = rw (k, went-not g z)

    module _ (w : DiskINode) (is : w ≡ (row_at t i).rec) (n : ℕ) (e : n ≡ answer (ask_range w mode from len)) (z : r ≡ 0) where
      -- the record's questions as one
      together : (x y f o : Out Unit) → bind x (λ _. bind y (λ _. f)) ≡ o → bind x (λ _. bind y (λ _. bind f (λ _. done i))) ≡ bind o (λ _. done i)
      together (done u) (done v) f o q = ap (λ (p : Out Unit). bind p (λ _. done i)) q
      together (done u) (refused m) f o q = ap (λ (p : Out Unit). bind p (λ _. done i)) q
      together (refused m) y f o q = ap (λ (p : Out Unit). bind p (λ _. done i)) q

      asked : (o : Out Unit) → ask_range w mode from len ≡ o → questions a t who h mode from len ≡ bind o (λ _. done i)
      unfolding questions ask_range
      asked o q = rw (k, went-is g z) (together (plain_file (row_at t i).rec) (not_too_big (from + len)) (fits_mode mode (row_at t i).rec.size from len) o (rw is at q))

      pub call-record : (n ≡ 0 → ⊥) → call_fallocate a t who h mode from len ≡ refused n
      unfolding AsksFirst
      call-record y = asks-first a t who h mode from len n (asked (refused n) (asked-not (ask_range w mode from len) n e y))

      pub asked_of : n ≡ 0 → AskedOf a t who h mode from len i w
      asked_of y = record { answered = asked (done tt) (asked-done (ask_range w mode from len) (asks-range w mode from len) n e y); is = is; row = went-has g z }

module _ {a : List ℕ} {t : Table} {who : ℕ} {h : Handle} {mode : FallocateMode} {from len i : ℕ} {w : DiskINode} (Q : AskedOf a t who h mode from len i w) where
  steps : call_fallocate a t who h mode from len ≡ ending (mode_steps mode (start a t) i from len)
  steps = call-is a t who h mode from len ∙ rw Q.answered

  pub fits : (from + len ≤ longest) × (fits_mode mode w.size from len ≡ done tt)
  fits = let F = ok-done (subst (Ok _ Any) Q.answered (asked-law a t who h mode from len)) in (F.1, rw Q.is F.2)

  pub looking : {q : Bool} → q ≡ looks mode w.size from len → not q ≡ false → looks mode w.size from len ≡ true
  looking {q} l x = sym l ∙ not-false q x

  -- one more than the head's number, or 0
  module _ {c : ℕ} (p : c ≡ head_at a (node_file w)) where
    pub missing : c ≡ 0 → there a (node_file w) ≡ false
    missing z = go (there a (node_file w)) (sym p ∙ z)
      where
        go : (b : Bool) → pick b (suc (head_of a (node_file w))) 0 ≡ 0 → b ≡ false
        go true e = absurd (omega arith)
        go false e = refl

    pub found : (c ≡ 0 → ⊥) → (there a (node_file w) ≡ true) × (c - 1 ≡ head_of a (node_file w))
    found z = go (there a (node_file w)) (sym p)
      where
        go : (b : Bool) → pick b (suc (head_of a (node_file w))) 0 ≡ c → (b ≡ true) × (c - 1 ≡ head_of a (node_file w))
        go true e = (refl, omega arith)
        go false e = absurd (z (sym e))

  pub call-idle : {q : Bool} → q ≡ looks mode w.size from len → not q ≡ true → call_fallocate a t who h mode from len ≡ done (after (start a t))
  call-idle {q} l x = steps ∙ rw (idle (start a t) i from len mode (rw (← Q.is) fits.1) (rw (← Q.is) (sym l ∙ not-true q x)))

  module _ (x : looks mode w.size from len ≡ true) (B : Bytes a) where
    says : answer (call_fallocate a t who h mode from len) ≡ pick (there a (node_file w)) (says_on mode a (node_file w) w.size from len) 19
    unfolding FallocateSays
    says =
        let e : answer (call_fallocate a t who h mode from len)
        ≡ pick (there a (node_file (row_at t i).rec)) (says_on mode a (node_file (row_at t i).rec) (row_at t i).rec.size from len) (pick (looks mode (row_at t i).rec.size from len) 19 0) =
        fallocate-says a t who h mode from len i B Q.answered in
        rw (← Q.is) at e ∙ ap (λ (b : Bool). pick (there a (node_file w)) (says_on mode a (node_file w) w.size from len) (pick b 19 0)) x

    pub call-missing : there a (node_file w) ≡ false → call_fallocate a t who h mode from len ≡ refused 19
    call-missing v = asked-not (call_fallocate a t who h mode from len) 19 (sym (says ∙ rw v)) (λ u. omega arith)

    pub call-refused : {places source : List ℕ} {d : ℕ} → there a (node_file w) ≡ true → Resolved mode a (node_file w) w.size from len places source d → (d ≡ 0 → ⊥)
        → call_fallocate a t who h mode from len ≡ refused d
    call-refused {d = d} v D u = asked-not (call_fallocate a t who h mode from len) d (D.says ∙ sym (says ∙ rw v)) u

  pub call-goes : {places source : List ℕ} {c d : ℕ} → blocks a ≤ 4096 → sound a ≡ true → (there a (node_file w) ≡ true) × (c ≡ head_of a (node_file w))
      → Resolved mode a (node_file w) w.size from len places source d → d ≡ 0
      → (call_fallocate a t who h mode from len ≡ ending (mode_steps mode (start a t) i from len)) × Supplied a t i c mode from len places source
  call-goes b s v D u = (
    steps,
    record {
      most = b;
      reached = record { row = Q.row; range = fits.0; fine = s; exists = rw (← Q.is) v.0; head = rw (← Q.is) v.1 };
      supply = rw (← Q.is) (D.has u);
    },
  )
