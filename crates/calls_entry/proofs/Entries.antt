-- Get entry: its questions, and from what the code answers to the answer.
use mathlib.Core.Path.{◌≡◌, refl, ◌∙◌, ap}
use mathlib.Core.Bool.{Bool, true, false}
use mathlib.Core.List.{List, ◌++◌}
use Prim.Native.Nat.{ℕ, ◌<◌, ◌≤◌}
use native.Mathlib.Omega.{arith}
use lib.ListN.{length, drop}
use lib.Dec.{ltb, leb}
use borrow.Author.Tests.{ltb-true, leb-true}
use Rattle.base.specs.Out.{Out, done, refused, bind, ensure, answer, Went}
use Rattle.base.proofs.Outs.{went-is, went-not, above_zero}
use Rattle.structs.specs.declared.DiskINode.{DiskINode}
use Rattle.table.specs.declared.Table.{Table}
use Rattle.table.specs.declared.Handle.{Handle}
use Rattle.table.specs.Table.{row_at}
use Rattle.sefs.specs.Ask.{admit, by_handle}
use Rattle.sefs.specs.Read.{readable, named_slot, call_entry}
use Rattle.calls.specs.Answers.{Laid, lay, leave}
use Rattle.calls.proofs.Asks.{Asks, asks-ensure, asks-then, asks-readable, asked-done, answer-stop, call-stop, call_next}
use Rattle.calls.proofs.Outputs.{paste-front}
use Rattle.calls_entry.specs.Entry.{entry_ask, entry_in}

pub asks-entry : (r : DiskINode) (k room : ℕ) → Asks (entry_ask r k room)
unfolding entry_ask
asks-entry r k room =
    asks-then (asks-readable r)
    (λ _. asks-then (asks-ensure (ltb k r.blocks) 11 (omega arith)) (λ _. asks-ensure (leb 264 room) 20 (omega arith)))

-- a number n that `readable` answered
module _ (r : DiskINode) (n : ℕ) (e : n ≡ answer (readable r)) where
  pub entry-stop : (k room : ℕ) → (n ≡ 0 → ⊥) → n ≡ answer (entry_ask r k room)
  unfolding entry_ask
  entry-stop k room z = answer-stop (readable r) (λ _. bind (ensure (ltb k r.blocks) 11) (λ _. ensure (leb 264 room) 20)) n e z

  pub entry_past : (k room : ℕ) → n ≡ 0 → ltb k r.blocks ≡ false → 11 ≡ answer (entry_ask r k room)
  unfolding entry_ask
  entry_past k room z f =
      let q = asked-done (readable r) (asks-readable r) n e z in
      rw (q, f)

  pub entry-room : (k room : ℕ) → n ≡ 0 → ltb k r.blocks ≡ true → answer (ensure (leb 264 room) 20) ≡ answer (entry_ask r k room)
  unfolding entry_ask
  entry-room k room z f =
      let q = asked-done (readable r) (asks-readable r) n e z in
      rw (q, f)

-- the questions as one
pub entry-split : (a : List ℕ) (r : DiskINode) (k room : ℕ) → entry_in a r k room ≡ bind (entry_ask r k room) (λ _. named_slot a r k)
unfolding entry_in entry_ask
entry-split a r k room = go (readable r) (ltb k r.blocks) (leb 264 room)
  where
    go : (o : Out Unit) (b d : Bool) → bind o (λ _. bind (ensure b 11) (λ _. bind (ensure d 20) (λ _. named_slot a r k))) ≡ bind (bind o (λ _. bind (ensure b 11) (λ _. ensure d 20))) (λ _. named_slot a r k)
    go (refused n) b d = refl
    go (done u) false d = refl
    go (done u) true false = refl
    go (done u) true true = refl

-- get entry's questions passed: there is room for a slot
pub entry-fits : (r : DiskINode) (k room n : ℕ) → n ≡ answer (entry_ask r k room) → n ≡ 0 → (k < r.blocks) × (264 ≤ room)
unfolding entry_ask
entry-fits r k room n e z = go (readable r) (ltb k r.blocks) refl (leb 264 room) refl (asked-done (entry_ask r k room) (asks-entry r k room) n e z)
  where
    go : (o : Out Unit) (b : Bool) → ltb k r.blocks ≡ b → (d : Bool) → leb 264 room ≡ d → bind o (λ _. bind (ensure b 11) (λ _. ensure d 20)) ≡ done tt → (k < r.blocks) × (264 ≤ room)
    go (done u) true p true q f = (ltb-true _ _ p, leb-true _ _ q)
    go (done u) true p false q f = absurd (let z : ◌≡◌ {A = ℕ} 0 1 = cc in omega arith)
    go (done u) false p d q f = absurd (let z : ◌≡◌ {A = ℕ} 0 1 = cc in omega arith)
    go (refused m) b p d q f = absurd (let z : ◌≡◌ {A = ℕ} 0 1 = cc in omega arith)

-- ---- the output

module _ {P : Type 0} {o : Out (List ℕ)} {s : List ℕ} {r : ℕ} (g : Went o s P r) where
  -- nothing is laid over it where there is a reason
  pub entry-not : (out : List ℕ) (n : ℕ) → (r ≡ 0 → ⊥) → Laid o out out n r
  entry-not out n z = leave (above_zero r z) (went-not g z) refl

  -- a copy of what was read
  pub entry-copied : (out d : List ℕ) (n : ℕ) → r ≡ 0 → length s ≡ n → d ≡ s → Laid o out (d ++ drop n out) n 0
  entry-copied out d n z h e = lay {l = s} (went-is g z) h (ap (λ (x : List ℕ). x ++ drop n out) e ∙ paste-front out s n h)

-- ---- the call, once arena and table are known

pub entry-refused : (a : List ℕ) (t : Table) (who : ℕ) (h : Handle) (k room : ℕ) {n : ℕ} → admit a t ≡ refused n → call_entry a t who h k room ≡ refused n
unfolding call_entry
entry-refused a t who h k room q = rw q

module _ {P : Type 0} (a : List ℕ) (t : Table) (who : ℕ) (h : Handle) (q : admit a t ≡ done tt) (k room row r : ℕ) (g : Went (by_handle t who h) row P r) where
  pub entry-dead : (out : List ℕ) → (r ≡ 0 → ⊥) → Laid (call_entry a t who h k room) out out 264 r
  unfolding call_entry entry_in
  entry-dead out z = leave (above_zero r z) (call-stop a t who h q (λ i. entry_in a (row_at t i).rec k room) row r g z) refl

  pub entry-goes : {out now : List ℕ} {n s : ℕ} (w : DiskINode) → r ≡ 0 → w ≡ (row_at t row).rec → Laid (entry_in a w k room) out now n s → Laid (call_entry a t who h k room) out now n s
  unfolding call_entry entry_in
  entry-goes w z e L = rw (call_next a t who h q (λ i. entry_in a (row_at t i).rec k room) row r g z, ← e) L
