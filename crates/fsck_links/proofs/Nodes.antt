-- Rule 7's tests of one node, and the test of a folder's names, from the count of its names.
use mathlib.Core.Path.{◌≡◌, refl, sym, ap, ◌∙◌}
use mathlib.Core.Bool.{Bool, true, false, not, ◌&&◌, ◌||◌}
use mathlib.Core.List.{List}
use Prim.Native.Nat.{ℕ}
use lib.Dec.{eqb}
use borrow.Author.Tests.{eq-eqb, ne_eqb}
use Rattle.base.specs.Count.{all_to}
use Rattle.structs.specs.declared.DiskINode.{DiskINode}
use Rattle.table.specs.declared.Table.{Table}
use Rattle.rules.specs.Image.{ids_in, is_node, rec_of, is_open, is_folder_at, named}
use Rattle.rules.specs.Tests.{test7, named_due, linked, removed, links_allowed}
use Rattle.fsck_links.specs.Counts.{links_at, names_fine, folders_named}

-- ---- how often a folder is named

module _ (a : List ℕ) (t : Table) (id n : ℕ) (n-is : n ≡ named a t id) where
  pub due-root : id ≡ 2 → eqb n 0 ≡ named_due a t id
  unfolding named_due
  due-root e = ap (λ (x : ℕ). eqb x 0) n-is ∙ sym (rw (eq-eqb id 2 e) refl)

  pub due-other : (id ≡ 2 → ⊥) → eqb n 1 ≡ named_due a t id
  unfolding named_due
  due-other d = ap (λ (x : ℕ). eqb x 1) n-is ∙ sym (rw (ne_eqb id 2 d) refl)

-- ---- nodes

module _ (a : List ℕ) (t : Table) (id : ℕ) where
  pub node-none : is_node a id ≡ false → true ≡ links_at a t id
  node-none e = sym (rw e refl)

  module _ (node : is_node a id ≡ true) (r : DiskINode) (r-is : r ≡ rec_of a t id) (b : Bool) where
    pub node-folder : r.kind ≡ 2 → b ≡ (linked a t id r || removed a t id r) → b ≡ links_at a t id
    unfolding links_allowed
    node-folder k e =
        let z : b ≡ links_allowed a t id r = e ∙ sym (rw (eq-eqb r.kind 2 k) refl) in
        z ∙ ap (links_allowed a t id) r-is ∙ sym (rw node refl)

    pub node-other : (n : ℕ) → n ≡ named a t id → (r.kind ≡ 2 → ⊥) → b ≡ (eqb r.nlinks n && (not (eqb r.nlinks 0) || is_open t id)) → b ≡ links_at a t id
    unfolding links_allowed
    node-other n n-is k e =
        let y : b ≡ (eqb r.nlinks (named a t id) && (not (eqb r.nlinks 0) || is_open t id)) =
        e ∙ ap (λ (x : ℕ). eqb r.nlinks x && (not (eqb r.nlinks 0) || is_open t id)) n-is
        in
        let z : b ≡ links_allowed a t id r = y ∙ sym (rw (ne_eqb r.kind 2 k) refl) in
        z ∙ ap (links_allowed a t id) r-is ∙ sym (rw node refl)

  -- ---- the names of folders

  pub names-none : is_folder_at a t id ≡ false → true ≡ names_fine a t id
  unfolding names_fine
  names-none e = sym (rw e refl)

-- ---- all ids

module _ (a : List ℕ) (t : Table) where
  pub seven_is : all_to (links_at a t) (ids_in a) ≡ test7 a t
  unfolding test7
  seven_is = refl

  pub folders-named : all_to (names_fine a t) (ids_in a) ≡ folders_named a t
  unfolding folders_named
  folders-named = refl
