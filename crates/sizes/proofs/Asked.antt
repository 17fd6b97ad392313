-- What write, resize and fallocate ask: question by question, and that the call is its questions and then its steps.
use mathlib.Core.Path.{◌≡◌, refl, sym, ◌∙◌}
use mathlib.Core.Bool.{Bool, true, false}
use mathlib.Core.List.{List}
use Prim.Native.Nat.{ℕ, suc, ◌-◌, ◌≤◌, ◌<◌}
use native.Mathlib.Omega.{arith}
use lib.Dec.{leb}
use borrow.Author.Tests.{leb-true}
use Rattle.base.specs.Out.{Out, done, refused, bind, ensure, answer, Went, well, ill}
use Rattle.base.specs.Search.{pick}
use Rattle.base.proofs.Outs.{went-is, went-has, went-not, above_zero}
use Rattle.structs.specs.declared.DiskINode.{DiskINode}
use Rattle.table.specs.declared.Table.{Table}
use Rattle.table.specs.declared.Handle.{Handle}
use Rattle.table.specs.Table.{row_at}
use Rattle.arena.specs.Places.{head_of}
use Rattle.sound.specs.Sound.{sound}
use Rattle.files.specs.Read.{there}
use Rattle.files.specs.Store.{longest}
use Rattle.sefs.specs.Nodes.{node_file}
use Rattle.sefs.specs.Ask.{admit, by_handle}
use Rattle.sefs.specs.Contents.{has_contents, not_too_big}
use Rattle.chains.specs.Led.{head_at}
use Rattle.calls.proofs.Asks.{Asks, asks-ensure, asks-then, asks-contents, asked-not, asked-done, answer-stop, answer-next}
use Rattle.sizes.specs.Sizes.{ask_record, ask_end, Reached}

-- ---- 21 and 22

asks-record : (r : DiskINode) (end : ℕ) → Asks (ask_record r end)
unfolding ask_record
asks-record r end = asks-then (asks-contents r) (λ _. asks-ensure (leb end longest) 22 (omega arith))

module _ (r : DiskINode) (end n : ℕ) (e : n ≡ answer (has_contents r)) where
  pub record-stop : (n ≡ 0 → ⊥) → n ≡ answer (ask_record r end)
  unfolding ask_record
  record-stop z = answer-stop (has_contents r) (λ _. not_too_big end) n e z

  pub record-next : n ≡ 0 → answer (not_too_big end) ≡ answer (ask_record r end)
  unfolding ask_record
  record-next z = answer-next (has_contents r) (λ _. not_too_big end) (asks-contents r) n e z

-- an end that passed is in range
record-range : (r : DiskINode) (end : ℕ) → ask_record r end ≡ done tt → end ≤ longest
unfolding ask_record
record-range r end = go (has_contents r) (leb end longest) refl
  where
    go : (o : Out Unit) (b : Bool) → leb end longest ≡ b → bind o (λ _. ensure b 22) ≡ done tt → end ≤ longest
    go (done u) true p f = leb-true _ _ p
    go (done u) false p f = absurd (let z : ◌≡◌ {A = ℕ} 0 1 = cc in omega arith)
    go (refused m) b p f = absurd (let z : ◌≡◌ {A = ℕ} 0 1 = cc in omega arith)

-- ---- one question after another

module _ (a : List ℕ) (t : Table) (who : ℕ) (h : Handle) (end : ℕ) (k : admit a t ≡ done tt) {i r : ℕ} (g : Went (by_handle t who h) i (i < 34) r) where
  pub end-handle : (v : ℕ) (P : Type 0) → (r ≡ 0 → ⊥) → Went (ask_end a t who h end) v P r
  unfolding ask_end
  end-handle v P z = ill (above_zero r z) (rw (k, went-not g z))

  module _ (w : DiskINode) (is : w ≡ (row_at t i).rec) (n : ℕ) (e : n ≡ answer (ask_record w end)) (z : r ≡ 0) where
    pub end-record : (v : ℕ) (P : Type 0) → (n ≡ 0 → ⊥) → Went (ask_end a t who h end) v P n
    unfolding ask_end
    end-record v P y = ill (above_zero n y) (rw (k, went-is g z, ← is, asked-not (ask_record w end) n e y))

    pub end-missing : (v : ℕ) (P : Type 0) (c : ℕ) → n ≡ 0 → c ≡ head_at a (node_file w) → c ≡ 0 → Went (ask_end a t who h end) v P 19
    unfolding ask_end
    end-missing v P c y q x =
        let d : there a (node_file w) ≡ false = missing (there a (node_file w)) (sym q ∙ x) in
        ill {r = 19} (omega arith) (rw (k, went-is g z, ← is, asked-done (ask_record w end) (asks-record w end) n e y, d))
      where
        missing : (b : Bool) → pick b (suc (head_of a (node_file w))) 0 ≡ 0 → b ≡ false
        missing true f = absurd (omega arith)
        missing false f = refl

    pub end-reached : (c : ℕ) → sound a ≡ true → n ≡ 0 → c ≡ head_at a (node_file w) → (c ≡ 0 → ⊥) → Went (ask_end a t who h end) i (Reached a t i (c - 1) end) 0
    unfolding ask_end
    end-reached c ok y q x =
        let p = asked-done (ask_record w end) (asks-record w end) n e y in
        let d = found (there a (node_file w)) (sym q) in
        well (rw (k, went-is g z, ← is, p, d.0))
        (record {
          row = went-has g z;
          range = record-range w end p;
          fine = ok;
          exists = rw (← is) d.0;
          head = rw (← is) d.1;
        })
      where
        found : (b : Bool) → pick b (suc (head_of a (node_file w))) 0 ≡ c → (b ≡ true) × (c - 1 ≡ head_of a (node_file w))
        found true f = (refl, omega arith)
        found false f = absurd (x (sym f))

-- arena or table are refused
pub end-unadmitted : (a : List ℕ) (t : Table) (who : ℕ) (h : Handle) (end : ℕ) {r : ℕ} (v : ℕ) (P : Type 0) → (r ≡ 0 → ⊥) → admit a t ≡ refused r → Went (ask_end a t who h end) v P r
unfolding ask_end
end-unadmitted a t who h end {r} v P z e = ill (above_zero r z) (rw e)

-- ---- a call is its questions, and then its steps: they refuse a missing file first

pub end-split : {A : Type 0} (a : List ℕ) (t : Table) (who : ℕ) (h : Handle) (end : ℕ) (k : ℕ → Out A) → ((i : ℕ) → there a (node_file (row_at t i).rec) ≡ false → k i ≡ refused 19)
    → bind (admit a t) (λ _. bind (by_handle t who h) (λ i. bind (has_contents (row_at t i).rec) (λ _. bind (not_too_big end) (λ _. k i)))) ≡ bind (ask_end a t who h end) k
unfolding ask_end ask_record
end-split {A} a t who h end k none = go (admit a t) (by_handle t who h)
  where
    last : (i : ℕ) (o : Out Unit) (b c : Bool) → (c ≡ false → k i ≡ refused 19) → bind o (λ _. bind (ensure b 22) (λ _. k i)) ≡ bind (bind (bind o (λ _. ensure b 22)) (λ _. bind (ensure c 19) (λ _. done i))) k
    last i (refused n) b c x = refl
    last i (done u) false c x = refl
    last i (done u) true true x = refl
    last i (done u) true false x = x refl

    go : (o : Out Unit) (p : Out ℕ) → bind o (λ _. bind p (λ i. bind (has_contents (row_at t i).rec) (λ _. bind (not_too_big end) (λ _. k i)))) ≡
        bind (bind o (λ _. bind p (λ i. bind (bind (has_contents (row_at t i).rec) (λ _. not_too_big end)) (λ _. bind (ensure (there a (node_file (row_at t i).rec)) 19) (λ _. done i))))) k
    go (refused n) p = refl
    go (done u) (refused n) = refl
    go (done u) (done i) = last i (has_contents (row_at t i).rec) (leb end longest) (there a (node_file (row_at t i).rec)) (none i)
