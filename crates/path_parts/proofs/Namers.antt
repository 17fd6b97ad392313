-- The name of a node in the folder above it: the slot that names the node, and how its name is spelled.
use mathlib.Core.Path.{◌≡◌, refl, sym, ap, ◌∙◌, subst}
use mathlib.Core.Bool.{Bool, true, false}
use mathlib.Core.Logic.{⊎_elim}
use mathlib.Core.List.{List}
use Prim.Native.Nat.{ℕ, zero, suc, ◌+◌, ◌-◌, ◌≤◌, ◌<◌}
use native.Mathlib.Nat.{eq-or-lt_of_le, le_of_suc-le-suc}
use native.Mathlib.Numerals.{add-one}
use native.Mathlib.Omega.{arith}
use lib.ListN.{length, take, drop, length-take}
use borrow.Author.Tests.{lt-ltb, le-ltb, eq-eqb, ne_eqb}
use Rattle.base.specs.Out.{done, refused, bind, guard, Went, well, ill}
use Rattle.base.specs.Parts.{part}
use Rattle.base.specs.Search.{pick}
use Rattle.base.proofs.Outs.{went-is, went-has, went-not, above_zero}
use Rattle.base.proofs.Parts.{part-part}
use Rattle.le.specs.Le.{le_at}
use Rattle.structs.specs.Layout.{entry_of}
use Rattle.structs.specs.declared.DiskINode.{DiskINode}
use Rattle.utf8.specs.Names.{has_zero, stored_name, name_of, zero_at}
use Rattle.utf8.specs.declared.StoredName.TheVariants.{Ended, Broken}
use Rattle.utf8.specs.Utf8.{utf8}
use Rattle.utf8.proofs.Names.{stored-says}
use Rattle.sefs.specs.Slots.{slot_bytes, slot_at, is_ended}
use Rattle.rules.specs.Image.{later_slots}
use Rattle.paths.specs.Path.{namer_to, name_in}
use Rattle.path_parts.specs.Parts.{spelled_name}

-- ---- the slots that were passed

module _ (a : List ℕ) (r : DiskINode) (x : ℕ) where
  pub namer-none : namer_to a r x 0 ≡ done 0
  unfolding namer_to
  namer-none = refl

  -- the later slots before k were passed, and slot k of them can't be read
  namer-stuck : (k n : ℕ) → namer_to a r x k ≡ done k → slot_bytes a r (2 + k) ≡ refused n → namer_to a r x (suc k) ≡ refused n
  unfolding namer_to
  namer-stuck k n e f = rw (e, le-ltb k k (omega arith), f)

  -- or names x
  namer-hit : (k : ℕ) (l : List ℕ) → namer_to a r x k ≡ done k → slot_bytes a r (2 + k) ≡ done l → le_at l 0 4 ≡ x → namer_to a r x (suc k) ≡ done k
  unfolding namer_to entry_of
  namer-hit k l e f h = rw (e, le-ltb k k (omega arith), f, eq-eqb (le_at l 0 4) x h)

  -- or is passed
  pub namer-miss : (k : ℕ) (l : List ℕ) → namer_to a r x k ≡ done k → slot_bytes a r (2 + k) ≡ done l → (le_at l 0 4 ≡ x → ⊥) → namer_to a r x (k + 1) ≡ done (k + 1)
  unfolding namer_to entry_of
  namer-miss k l e f h = rw (add-one, e, le-ltb k k (omega arith), f, ne_eqb (le_at l 0 4) x h)

  -- a search that was refused, or that found, ends so
  namer-over : (m n z : ℕ) → namer_to a r x m ≡ refused z → m ≤ n → namer_to a r x n ≡ refused z
  unfolding namer_to
  namer-over m zero z e h = subst (λ (j : ℕ). namer_to a r x j ≡ refused z) (let q : m ≡ 0 = omega arith in q) e
  namer-over m (suc n) z e h =
      ⊎_elim
      (λ q. subst (λ (j : ℕ). namer_to a r x j ≡ refused z) q e)
      (λ l. rw (namer-over m n z e (le_of_suc-le-suc l)))
      (eq-or-lt_of_le h)

  namer-found : (m n k : ℕ) → namer_to a r x m ≡ done k → k < m → m ≤ n → namer_to a r x n ≡ done k
  unfolding namer_to
  namer-found m zero k e l h = absurd (omega arith)
  namer-found m (suc n) k e l h =
      ⊎_elim
      (λ q. subst (λ (j : ℕ). namer_to a r x j ≡ done k) q e)
      (λ g. rw (namer-found m n k e l (le_of_suc-le-suc g), lt-ltb k n (omega arith)))
      (eq-or-lt_of_le h)

  -- what the code's ways out show, of a search in n later slots
  module _ (k n : ℕ) (l : k < n) (e : namer_to a r x k ≡ done k) {d : List ℕ} {P : Type 0} {z : ℕ} (g : Went (slot_bytes a r (2 + k)) d P z) where
    pub namer-ends : (v : ℕ) (Q : Type 0) → (z ≡ 0 → ⊥) → Went (namer_to a r x n) v Q z
    namer-ends v Q w = ill (above_zero _ w) (namer-over (suc k) n _ (namer-stuck k _ e (went-not g w)) l)

    pub namer-at : {i : ℕ} → z ≡ 0 → i ≡ le_at d 0 4 → i ≡ x → Went (namer_to a r x n) k (k < n → slot_bytes a r (2 + k) ≡ done d) 0
    namer-at w f h = well (namer-found (suc k) n k (namer-hit k d e (went-is g w) (sym f ∙ h)) (omega arith) l) (λ _. went-is g w)

  -- no later slot names x
  pub namer-all : (k n m : ℕ) (P : Type 0) → namer_to a r x k ≡ done k → k ≤ n → n ≤ k → n ≡ m → Went (namer_to a r x m) n (n < m → P) 0
  namer-all k n m P e l g h = well (ap (namer_to a r x) (let z : m ≡ k = omega arith in z) ∙ e ∙ ap done (let z : k ≡ n = omega arith in z)) (λ o. absurd (omega arith))

-- ---- a name as it is stored

-- it ends at its first zero
ended_at : (s : List ℕ) (k : ℕ) → stored_name s ≡ Ended k → zero_at s ≡ k
unfolding stored_name
ended_at s k = go (has_zero s) (utf8 (name_of s))
  where
    go : (b c : Bool) → pick b (pick c (Ended (zero_at s)) Broken) Broken ≡ Ended k → zero_at s ≡ k
    go true true e = cc
    go true false e = absurd (let z : ◌≡◌ {A = ℕ} 0 1 = cc in omega arith)
    go false c e = absurd (let z : ◌≡◌ {A = ℕ} 0 1 = cc in omega arith)

pub spelled-ended : (s : List ℕ) (k : ℕ) → stored_name s ≡ Ended k → Went (spelled_name s) (part s 0 k) (k < length s) 0
unfolding spelled_name
spelled-ended s k e = well (rw (e, ended_at s k e) (ap (λ (n : ℕ). done (take n s)) (let q : k ≡ k - 0 = omega arith in q))) (stored-says s k e).inside

pub spelled-broken : (s v : List ℕ) (Q : Type 0) {n : ℕ} → stored_name s ≡ Broken → n ≡ 19 → Went (spelled_name s) v Q n
unfolding spelled_name
spelled-broken s v Q e f = rw f (ill {r = 19} (omega arith) (rw e))

-- ---- the name of node x

-- a slot whose bytes are l, asked for its name
slot-spelled : (a : List ℕ) (r : DiskINode) (k : ℕ) (l : List ℕ) → slot_bytes a r k ≡ done l → bind (slot_at a r k) (λ e. done (name_of e.name)) ≡ spelled_name (part l 4 260)
unfolding slot_at spelled_name entry_of
slot-spelled a r k l e = rw e (go (is_ended (stored_name (part l 4 260))))
  where
    go : (b : Bool) → bind (guard b 19 (done (entry_of l))) (λ e. done (name_of e.name)) ≡ guard b 19 (done (name_of (part l 4 260)))
    go true = refl
    go false = refl

module _ (a : List ℕ) (r : DiskINode) (x : ℕ) {j n : ℕ} {l : List ℕ} (g : Went (namer_to a r x (later_slots r)) j (j < later_slots r → slot_bytes a r (2 + j) ≡ done l) n) where
  pub name-stop : (v : List ℕ) (Q : Type 0) {q : ℕ} → (n ≡ 0 → ⊥) → q ≡ n → Went (name_in a r x) v Q q
  unfolding name_in
  name-stop v Q z e = rw e (ill (above_zero n z) (rw (went-not g z)))

  module _ (z : n ≡ 0) where
    -- no later slot names x
    pub name-none : (v : List ℕ) (Q : Type 0) {q : ℕ} → later_slots r ≤ j → q ≡ 19 → Went (name_in a r x) v Q q
    unfolding name_in
    name-none v Q h e = rw e (ill {r = 19} (omega arith) (rw (went-is g z, le-ltb j (later_slots r) h)))

    name-is : j < later_slots r → name_in a r x ≡ spelled_name (part l 4 260)
    unfolding name_in
    name-is h = rw (went-is g z, lt-ltb j (later_slots r) h) (slot-spelled a r (2 + j) l (went-has g z h))

    -- the name stands in the slot from its fifth byte on
    pub name-there : (m : ℕ) {q : ℕ} → j < later_slots r → Went (spelled_name (part l 4 260)) (part (part l 4 260) 0 m) (m < length (part l 4 260)) q
        → Went (name_in a r x) (part l 4 (4 + m)) (m ≤ 255) q
    name-there m h (well e p) =
        let k : m ≤ 255 = omega (arith, length-take 256 (drop 4 l)) in
        well (name-is h ∙ e ∙ ap done (part-part l 4 260 0 m (omega arith))) k
    name-there m h (ill o e) = ill o (name-is h ∙ e)
