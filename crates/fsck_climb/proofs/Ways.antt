-- The tests of a slot, a folder and an id, by each way out of the function that makes them.
use mathlib.Core.Path.{◌≡◌, refl, sym, ap, ◌∙◌}
use mathlib.Core.Bool.{Bool, true, false, not, ◌&&◌, ◌||◌}
use mathlib.Core.List.{List}
use mathlib.Core.Logic.{◌≢◌, ⊎_elim}
use Prim.Native.Nat.{ℕ, suc, ◌+◌, ◌*◌, ◌%◌, ◌≤◌, ◌<◌}
use native.Mathlib.Omega.{arith}
use native.Mathlib.Nat.{eq-or-lt_of_le}
use native.Mathlib.Numerals.{add-one}
use lib.Dec.{eqb}
use lib.ListN.{get_or}
use borrow.Author.Tests.{eq-eqb, ne_eqb, lt-ltb, le-ltb}
use Rattle.base.proofs.Bools.{and-false}
use Rattle.base.proofs.Finds.{search-yes, search_no}
use Rattle.base.proofs.Lists.{Stored, stored-all}
use Rattle.le.specs.Le.{le_at}
use Rattle.structs.specs.Layout.{entry_of}
use Rattle.structs.specs.declared.DiskINode.{DiskINode}
use Rattle.table.specs.declared.Table.{Table}
use Rattle.sefs.specs.Nodes.{node_file}
use Rattle.rules.specs.Image.{run, is_node, rec_of, is_folder_at, slot_in, named}
use Rattle.fsck_climb.specs.Way.{up_by, up, ups, has_place, child_fine, children_fine, climb_by, reaches_in, tree_fine}

-- ---- a slot that was read

module _ (a l : List ℕ) (r : DiskINode) (k : ℕ) (e : l ≡ run a (node_file r) (264 * k) 264) where
  pub slot-id : le_at l 0 4 ≡ (slot_in a r k).id
  unfolding slot_in entry_of
  slot-id = ap (λ (x : List ℕ). le_at x 0 4) e

  pub slot-kind : le_at l 260 4 ≡ (slot_in a r k).kind
  unfolding slot_in entry_of
  slot-kind = ap (λ (x : List ℕ). le_at x 260 4) e

-- ---- what slot 1 names

module _ (a : List ℕ) (r : DiskINode) (id : ℕ) (e : id ≡ (slot_in a r 1).id) where
  pub up-low : id < 4096 → id ≡ up_by a r
  unfolding up_by
  up-low l = e ∙ sym (rw (lt-ltb (slot_in a r 1).id 4096 (omega (arith, e))) refl)

  pub up-high : 4096 ≤ id → 0 ≡ up_by a r
  unfolding up_by
  up-high l = sym (rw (le-ltb (slot_in a r 1).id 4096 (omega (arith, e))) refl)

module _ (a : List ℕ) (t : Table) (id : ℕ) where
  pub folder-not-node : is_node a id ≡ false → is_folder_at a t id ≡ false
  unfolding is_folder_at
  folder-not-node n = rw n refl

  pub folder-not-kind : (r : DiskINode) → r ≡ rec_of a t id → r.kind ≢ 2 → is_folder_at a t id ≡ false
  unfolding is_folder_at
  folder-not-kind r e n = rw (ne_eqb (rec_of a t id).kind 2 (λ q. n (ap (λ (x : DiskINode). x.kind) e ∙ q))) (and-false (is_node a id))

  pub folder-yes : (r : DiskINode) → r ≡ rec_of a t id → is_node a id ≡ true → r.kind ≡ 2 → is_folder_at a t id ≡ true
  unfolding is_folder_at
  folder-yes r e n q = rw (n, eq-eqb (rec_of a t id).kind 2 (sym (ap (λ (x : DiskINode). x.kind) e) ∙ q)) refl

  pub up_none : is_folder_at a t id ≡ false → 0 ≡ up a t id
  unfolding up
  up_none n = sym (rw n refl)

  pub up-some : (r : DiskINode) (v : ℕ) → r ≡ rec_of a t id → is_folder_at a t id ≡ true → v ≡ up_by a r → v ≡ up a t id
  unfolding up
  up-some r v e f q = q ∙ ap (up_by a) e ∙ sym (rw f refl)

  -- a folder that no slot names has no place, but for the root
  module _ (n : ℕ) (n-is : n ≡ named a t id) (b : Bool) (b-is : (not (eqb id 2) && eqb n 0) ≡ b) where
    place-not : has_place a t id ≡ not b
    unfolding has_place
    place-not = ap (λ (x : ℕ). eqb id 2 || not (eqb x 0)) (sym n-is) ∙ go (eqb id 2) (eqb n 0) ∙ ap not b-is
      where
        go : (x y : Bool) → (x || not y) ≡ not (not x && y)
        go true y = refl
        go false y = refl

  module _ (p : List ℕ) where
    pub tree-none : is_folder_at a t id ≡ false → true ≡ tree_fine a t p id
    unfolding tree_fine
    tree-none n = sym (rw n refl)

    pub tree-out : (n : ℕ) → n ≡ named a t id → (not (eqb id 2) && eqb n 0) ≡ true → true ≡ tree_fine a t p id
    unfolding tree_fine
    tree-out n n-is e = sym (rw (place-not n n-is true e, and-false (is_folder_at a t id)) refl)

    pub tree-some : (n : ℕ) → n ≡ named a t id → (not (eqb id 2) && eqb n 0) ≡ false → is_folder_at a t id ≡ true → (r : DiskINode) (b : Bool) → r ≡ rec_of a t id
        → b ≡ (children_fine a p r id && reaches_in p id 4097) → b ≡ tree_fine a t p id
    unfolding tree_fine
    tree-some n n-is e f r b r-is q =
        q ∙ ap (λ (x : DiskINode). children_fine a p x id && reaches_in p id 4097) r-is ∙ sym (rw (f, place-not n n-is false e) refl)

-- the ids that are stored are all
pub ups-all : (a : List ℕ) (t : Table) (d : List ℕ) (i : ℕ) → 4096 ≤ i → Stored 4096 (up a t) d i → d ≡ ups a t
unfolding ups
ups-all a t d i l S = stored-all 4096 (up a t) d i l S

-- ---- the slots of a folder

module _ (a p : List ℕ) (r : DiskINode) (id : ℕ) where
  pub child-other : (k : ℕ) → (slot_in a r k).kind ≢ 2 → true ≡ child_fine a p r id k
  unfolding child_fine
  child-other k n = sym (rw (ne_eqb (slot_in a r k).kind 2 n) refl)

  pub child-folder : (k c v : ℕ) → (slot_in a r k).kind ≡ 2 → c ≡ (slot_in a r k).id → v ≡ get_or p (c % 4096) 0 → eqb v id ≡ child_fine a p r id k
  unfolding child_fine
  child-folder k c v e f q =
      ap (λ (x : ℕ). eqb x id) (q ∙ ap (λ (x : ℕ). get_or p (x % 4096) 0) f) ∙ sym (rw (eq-eqb (slot_in a r k).kind 2 e) refl)

-- ---- climbing

module _ (p : List ℕ) (id : ℕ) where
  pub climb-none : id ≡ climb_by p id 0
  unfolding climb_by
  climb-none = refl

  climb-suc : (i : ℕ) → climb_by p id (suc i) ≡ get_or p (climb_by p id i) 0
  unfolding climb_by
  climb-suc i = refl

  pub climb-more : (i at v : ℕ) → at ≡ climb_by p id i → v ≡ get_or p at 0 → v ≡ climb_by p id (i + 1)
  climb-more i at v e f = f ∙ ap (λ (x : ℕ). get_or p x 0) e ∙ sym (rw add-one (climb-suc i))

  -- not before step i
  pub record Past (i : ℕ) : Type 0 where
    pub each : (j : ℕ) → j < i → eqb (climb_by p id j) 2 ≡ false

  pub past-none : Past 0
  past-none = record { each = λ j l. absurd (omega arith) }

  pub past_more : (i at : ℕ) → at ≡ climb_by p id i → at ≢ 2 → Past i → Past (i + 1)
  past_more i at e n P = record {
    each = λ j l. ⊎_elim
        (λ (q : j ≡ i). rw q (ne_eqb (climb_by p id i) 2 (λ z. n (e ∙ z))))
        (λ m. P.each j m)
        (eq-or-lt_of_le (let y : j ≤ i = omega arith in y));
  }

  pub reach-yes : (n i at : ℕ) → i < n → Past i → at ≡ climb_by p id i → at ≡ 2 → true ≡ reaches_in p id n
  unfolding reaches_in
  reach-yes n i at l P e q = search-yes (λ j. eqb (climb_by p id j) 2) n i l P.each (eq-eqb (climb_by p id i) 2 (sym e ∙ q))

  pub reach-no : (n i : ℕ) → n ≤ i → Past i → false ≡ reaches_in p id n
  unfolding reaches_in
  reach-no n i l P = search_no (λ j. eqb (climb_by p id j) 2) n (λ j m. P.each j (omega arith))
