-- Slots, read and looked for.
use mathlib.Core.Path.{◌≡◌, refl, ap, ◌∙◌, subst}
use mathlib.Core.Bool.{Bool, true, false}
use mathlib.Core.Logic.{⊎_elim}
use mathlib.Core.List.{List}
use Prim.Native.Nat.{ℕ, zero, suc, ◌+◌, ◌*◌, ◌≤◌, ◌<◌}
use native.Mathlib.Nat.{eq-or-lt_of_le, le_of_suc-le-suc}
use native.Mathlib.Numerals.{add-one}
use native.Mathlib.Omega.{arith}
use borrow.Author.Tests.{lt-ltb, le-ltb, lt-leb, le-leb}
use Rattle.base.specs.Out.{Out, done, refused, bind, guard, ensure, Went, well, ill}
use Rattle.base.specs.Parts.{part}
use Rattle.base.specs.Search.{found_below}
use Rattle.base.proofs.Outs.{went-is, went-has, went-not, went-stop, above_zero}
use Rattle.base.proofs.Searches.{found_at, found_nothing}
use Rattle.le.specs.Le.{le_at}
use Rattle.structs.specs.Layout.{entry_of}
use Rattle.structs.specs.declared.DiskEntry.{DiskEntry}
use Rattle.structs.specs.declared.DiskINode.{DiskINode}
use Rattle.utf8.specs.Names.{stored_name, is_named}
use Rattle.files.specs.Read.{read_file}
use Rattle.sefs.specs.Nodes.{node_file}
use Rattle.sefs.specs.Slots.{Slot, slot_bytes, is_ended, slot_at, look_to, lookup, find_slot}
use Rattle.sefs.specs.Read.{named_slot}

-- ---- one slot

module _ (a : List ℕ) (r : DiskINode) (k : ℕ) where
  -- it can't be read
  pub bytes-stop : {l : List ℕ} {P : Type 0} {x : ℕ} (v : List ℕ) (Q : Type 0) → (x ≡ 0 → ⊥) → Went (read_file a (node_file r) (264 * k) 264) l P x → Went (slot_bytes a r k) v Q x
  unfolding slot_bytes
  bytes-stop v Q z g = went-stop _ v z g

  -- its type is above 4
  pub bytes-stuck : {l : List ℕ} {P : Type 0} {x : ℕ} (v : List ℕ) (Q : Type 0) → Went (read_file a (node_file r) (264 * k) 264) l P x → x ≡ 0 → 4 < le_at l 260 4 → Went (slot_bytes a r k) v Q 19
  unfolding slot_bytes entry_of
  bytes-stuck {l} v Q g z h = ill {r = 19} (omega arith) (rw (went-is g z, lt-leb (le_at l 260 4) 4 h))

  pub bytes-done : {l : List ℕ} {P : Type 0} {x : ℕ} → Went (read_file a (node_file r) (264 * k) 264) l P x → x ≡ 0 → le_at l 260 4 ≤ 4 → Went (slot_bytes a r k) l P 0
  unfolding slot_bytes entry_of
  bytes-done {l} g z h = well (rw (went-is g z, le-leb (le_at l 260 4) 4 h)) (went-has g z)

module _ {P : Type 0} (a : List ℕ) (r : DiskINode) (k : ℕ) {l : List ℕ} {n : ℕ} (g : Went (slot_bytes a r k) l P n) where
  pub named-stop : (n ≡ 0 → ⊥) → Went (named_slot a r k) l P n
  unfolding named_slot
  named-stop z = ill (above_zero n z) (rw (went-not g z))

  pub named-done : n ≡ 0 → is_ended (stored_name (part l 4 260)) ≡ true → Went (named_slot a r k) l P 0
  unfolding named_slot entry_of
  named-done z b = well (rw (went-is g z, b)) (went-has g z)

  -- its name is not ended, or is not UTF-8
  pub named-stuck : n ≡ 0 → is_ended (stored_name (part l 4 260)) ≡ false → Went (named_slot a r k) l P 19
  unfolding named_slot entry_of
  named-stuck z b = ill {r = 19} (omega arith) (rw (went-is g z, b))

-- a slot whose name is looked at, by its fields
slot_is : (a : List ℕ) (r : DiskINode) (k : ℕ) → slot_at a r k ≡ bind (named_slot a r k) (λ l. done (entry_of l))
unfolding slot_at named_slot
slot_is a r k = go (slot_bytes a r k)
  where
    test : (l : List ℕ) (b : Bool) → guard b 19 (done (entry_of l)) ≡ bind (bind (ensure b 19) (λ _. done l)) (λ l. done (entry_of l))
    test l true = refl
    test l false = refl

    go : (o : Out (List ℕ)) → bind o (λ l. guard (is_ended (stored_name (entry_of l).name)) 19 (done (entry_of l)))
        ≡ bind (bind o (λ l. bind (ensure (is_ended (stored_name (entry_of l).name)) 19) (λ _. done l))) (λ l. done (entry_of l))
    go (done l) = test l (is_ended (stored_name (entry_of l).name))
    go (refused n) = refl

pub slot-named : {P : Type 0} (a : List ℕ) (r : DiskINode) (k : ℕ) {l : List ℕ} {n : ℕ} → Went (named_slot a r k) l P n → Went (slot_at a r k) (entry_of l) P n
slot-named a r k (well e p) = well (slot_is a r k ∙ rw e) p
slot-named a r k (ill h e) = ill h (slot_is a r k ∙ rw e)

-- ---- lookups

module _ (a : List ℕ) (r : DiskINode) (name : List ℕ) where
  pub look_none : look_to a r name 0 ≡ done 0
  unfolding look_to
  look_none = refl

  -- the slots before k were passed, and slot k can't be read
  look-stuck : (k x : ℕ) → look_to a r name k ≡ done k → slot_at a r k ≡ refused x → look_to a r name (suc k) ≡ refused x
  unfolding look_to
  look-stuck k x e f = rw (e, le-ltb k k (omega arith), f)

  -- or has the name
  look_hit : (k : ℕ) (d : DiskEntry) → look_to a r name k ≡ done k → slot_at a r k ≡ done d → is_named d.name name ≡ true → look_to a r name (suc k) ≡ done k
  unfolding look_to
  look_hit k d e f h = rw (e, le-ltb k k (omega arith), f, h)

  -- or is passed
  pub look-miss : (k : ℕ) (d : DiskEntry) → look_to a r name k ≡ done k → slot_at a r k ≡ done d → is_named d.name name ≡ false → look_to a r name (k + 1) ≡ done (k + 1)
  unfolding look_to
  look-miss k d e f h = rw (add-one, e, le-ltb k k (omega arith), f, h)

  -- a lookup that was refused, or that found, ends so
  look-over : (m n x : ℕ) → look_to a r name m ≡ refused x → m ≤ n → look_to a r name n ≡ refused x
  unfolding look_to
  look-over m zero x e h = subst (λ (j : ℕ). look_to a r name j ≡ refused x) (let q : m ≡ 0 = omega arith in q) e
  look-over m (suc n) x e h =
      ⊎_elim
      (λ q. subst (λ (j : ℕ). look_to a r name j ≡ refused x) q e)
      (λ l. rw (look-over m n x e (le_of_suc-le-suc l)))
      (eq-or-lt_of_le h)

  look-found : (m n k : ℕ) → look_to a r name m ≡ done k → k < m → m ≤ n → look_to a r name n ≡ done k
  unfolding look_to
  look-found m zero k e l h = absurd (omega arith)
  look-found m (suc n) k e l h =
      ⊎_elim
      (λ q. subst (λ (j : ℕ). look_to a r name j ≡ done k) q e)
      (λ g. rw (look-found m n k e l (le_of_suc-le-suc g), lt-ltb k n (omega arith)))
      (eq-or-lt_of_le h)

  -- what the code's ways out show, of a lookup in n slots
  pub look-ends : (k n : ℕ) {d : DiskEntry} {P : Type 0} {x : ℕ} (v : ℕ) (Q : Type 0) → k < n → look_to a r name k ≡ done k → (x ≡ 0 → ⊥) → Went (slot_at a r k) d P x → Went (look_to a r name n) v Q x
  look-ends k n v Q l e z g = ill (above_zero _ z) (look-over (suc k) n _ (look-stuck k _ e (went-not g z)) l)

  pub look_at_lem : (k n : ℕ) (d : DiskEntry) {P : Type 0} {x : ℕ} (Q : Type 0) → k < n → look_to a r name k ≡ done k → Went (slot_at a r k) d P x → x ≡ 0 → is_named d.name name ≡ true → Q → Went (look_to a r name n) k Q 0
  look_at_lem k n d Q l e g z h q = well (look-found (suc k) n k (look_hit k d e (went-is g z) h) (omega arith) l) q

  pub look-all : (k n : ℕ) (Q : Type 0) → look_to a r name k ≡ done k → k ≤ n → n ≤ k → n ≡ r.blocks → Q → Went (look_to a r name r.blocks) n Q 0
  look-all k n Q e l g h q = well (ap (look_to a r name) (let z : r.blocks ≡ k = omega arith in z) ∙ e ∙ ap done (let z : k ≡ n = omega arith in z)) q

  -- ---- lookup and find_slot by the place that look_to has

  pub lookup-is : {k : ℕ} {P : Type 0} {x : ℕ} → Went (look_to a r name r.blocks) k P x → Went (lookup a r name) (found_below k r.blocks) P x
  unfolding lookup
  lookup-is (well e p) = well (rw e) p
  lookup-is (ill l e) = ill l (rw e)

  pub find-stop : {k : ℕ} {P : Type 0} {x : ℕ} (v : Slot) (Q : Type 0) → (x ≡ 0 → ⊥) → Went (look_to a r name r.blocks) k P x → Went (find_slot a r name) v Q x
  unfolding find_slot
  find-stop v Q z g = went-stop _ v z (lookup-is g)

  pub find_none : {k : ℕ} {P : Type 0} {x : ℕ} (v : Slot) (Q : Type 0) → Went (look_to a r name r.blocks) k P x → x ≡ 0 → r.blocks ≤ k → Went (find_slot a r name) v Q 11
  unfolding find_slot
  find_none {k} v Q g z h = ill {r = 11} (omega arith) (rw (went-is (lookup-is g) z, found_nothing k r.blocks h))

  pub find_at : {k : ℕ} {P : Type 0} {x : ℕ} (d : DiskEntry) → Went (look_to a r name r.blocks) k P x → x ≡ 0 → k < r.blocks → slot_at a r k ≡ done d → Went (find_slot a r name) (record { place = k; entry = d }) (k < r.blocks) x
  unfolding find_slot
  find_at {k} d g z h e = rw z (well (rw (went-is (lookup-is g) z, found_at k r.blocks h, e)) h)
