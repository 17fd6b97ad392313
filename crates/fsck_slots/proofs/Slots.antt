-- Rule 6's tests, part by part as the code goes through them.
use mathlib.Core.Path.{◌≡◌, refl, sym, ap, ap₂, ◌∙◌}
use mathlib.Core.Bool.{Bool, true, false, not, ◌&&◌, ◌||◌}
use mathlib.Core.List.{List}
use mathlib.Core.Logic.{◌⊎◌, inl, inr, ⊎_elim}
use Prim.Native.Nat.{ℕ, suc, ◌+◌, ◌*◌, ◌-◌, ◌≤◌}
use native.Mathlib.Omega.{arith}
use native.Mathlib.Decide.{ℕ_discrete}
use lib.Dec.{eqb, ltb, leb}
use borrow.Author.Tests.{eq-eqb, ne_eqb, ltb-true, ltb-false}
use Rattle.base.specs.Count.{all_to}
use Rattle.base.specs.Decides.{same}
use Rattle.base.specs.Parts.{part}
use Rattle.base.specs.Search.{lowest, pick}
use Rattle.base.proofs.Bools.{bool_cases, and_both, and-false, and_assoc}
use Rattle.base.proofs.Searches.{lowest-le}
use Rattle.structs.specs.Layout.{entry_of}
use Rattle.structs.specs.Types.{is_folder}
use Rattle.structs.specs.declared.DiskINode.{DiskINode}
use Rattle.structs.specs.declared.DiskEntry.{DiskEntry}
use Rattle.utf8.specs.Names.{name_of, is_special, stored_name}
use Rattle.utf8.specs.declared.StoredName.{StoredName}
use Rattle.utf8.specs.declared.StoredName.TheVariants.{Ended, Broken}
use Rattle.table.specs.declared.Table.{Table}
use Rattle.files.specs.Read.{there, length_of}
use Rattle.files_laws.proofs.Views.{length_none}
use Rattle.sefs.specs.Nodes.{node_file}
use Rattle.sefs.specs.Slots.{is_ended}
use Rattle.rules.specs.Image.{run, ids_in, is_node, rec_of, is_folder_at, slot_in, later_slot, later_slots}
use Rattle.rules.specs.Tests.{dot_allowed, dots_allowed, later_allowed, same_name, is_first, folder_allowed, size_allowed, folders_allowed, sizes_allowed}
use Rattle.fsck_slots.specs.Slots.{plain_name, names_node, bears, slot_allowed, start_allowed, folder_fine, size_fine}
use Rattle.fsck_slots.proofs.Names.{slot_is, slot-later}

-- ---- one slot by itself

module _ (l : List ℕ) where
  pub plain-broken : stored_name (part l 4 260) ≡ Broken → false ≡ plain_name (entry_of l)
  unfolding plain_name entry_of
  plain-broken e = sym (ap (λ (x : StoredName). is_ended x && not (is_special (name_of (part l 4 260)))) e)

  pub plain-ended : (k : ℕ) (n : List ℕ) (r : Bool) → stored_name (part l 4 260) ≡ Ended k → n ≡ name_of (entry_of l).name → r ≡ is_special n → not r ≡ plain_name (entry_of l)
  unfolding plain_name entry_of
  plain-ended k n r e g q =
      ap not (q ∙ ap is_special g) ∙ sym (ap (λ (x : StoredName). is_ended x && not (is_special (name_of (part l 4 260)))) e)

-- ---- a later slot

later-parts : (a : List ℕ) (t : Table) (e : DiskEntry) → later_allowed a t e ≡ (plain_name e && names_node a t e)
unfolding later_allowed plain_name names_node
later-parts a t e =
    sym (and_assoc (is_ended (stored_name e.name)) (not (is_special (name_of e.name))) (is_node a e.id && eqb (rec_of a t e.id).kind e.kind))

module _ (a : List ℕ) (t : Table) (r : DiskINode) (j : ℕ) (l : List ℕ) (l-is : l ≡ run a (node_file r) (264 * (j + 2)) 264) where
  slot-parts : slot_allowed a t r j ≡ ((plain_name (entry_of l) && names_node a t (entry_of l)) && is_first a r j)
  unfolding slot_allowed
  slot-parts =
      ap (λ (x : DiskEntry). later_allowed a t x && is_first a r j) (sym (slot-later a r j l l-is))
      ∙ ap (λ (b : Bool). b && is_first a r j) (later-parts a t (entry_of l))

  first-is : (name : List ℕ) → name ≡ name_of (entry_of l).name → eqb (lowest (bears a r name) j) j ≡ is_first a r j
  unfolding is_first same_name bears
  first-is name e =
      ap (λ (x : List ℕ). eqb (lowest (λ i. same (name_of (later_slot a r i).name) x) j) j)
      (e ∙ ap (λ (x : DiskEntry). name_of x.name) (slot-later a r j l l-is))

  module _ (p : Bool) (p-is : p ≡ plain_name (entry_of l)) where
    pub later-plain : p ≡ false → false ≡ slot_allowed a t r j
    later-plain e = sym (slot-parts ∙ ap (λ (b : Bool). (b && names_node a t (entry_of l)) && is_first a r j) (sym p-is ∙ e))

    module _ (yes : p ≡ true) (q : Bool) (q-is : q ≡ names_node a t (entry_of l)) where
      pub later-node : q ≡ false → false ≡ slot_allowed a t r j
      later-node e = sym (slot-parts ∙ ap₂ (λ (b c : Bool). (b && c) && is_first a r j) (sym p-is ∙ yes) (sym q-is ∙ e))

      module _ (good : q ≡ true) (name : List ℕ) (name-is : name ≡ name_of (entry_of l).name) (w : Bool) (w-is : w ≡ ltb (lowest (bears a r name) j) j) where
        pub later-seen : w ≡ true → false ≡ slot_allowed a t r j
        later-seen e =
            let u = ltb-true (lowest (bears a r name) j) j (sym w-is ∙ e) in
            let f : is_first a r j ≡ false = sym (first-is name name-is) ∙ ne_eqb (lowest (bears a r name) j) j (λ z. absurd (omega (arith, z, u))) in
            sym (slot-parts ∙ ap (λ (b : Bool). (plain_name (entry_of l) && names_node a t (entry_of l)) && b) f ∙ and-false (plain_name (entry_of l) && names_node a t (entry_of l)))

        pub later-new : w ≡ false → true ≡ slot_allowed a t r j
        later-new e =
            let u = ltb-false (lowest (bears a r name) j) j (sym w-is ∙ e) in
            let z : lowest (bears a r name) j ≡ j = omega (arith, u, lowest-le (bears a r name) j) in
            let f : is_first a r j ≡ true = sym (first-is name name-is) ∙ eq-eqb (lowest (bears a r name) j) j z in
            sym (slot-parts ∙ and_both (and_both (sym p-is ∙ yes) (sym q-is ∙ good)) f)

-- ---- a folder

module _ (a : List ℕ) (r : DiskINode) (id : ℕ) (l : List ℕ) (l-is : l ≡ run a (node_file r) (264 * 0) 264) (p : Bool) (p-is : p ≡ dot_allowed id (entry_of l)) where
  dot-is : dot_allowed id (slot_in a r 0) ≡ p
  dot-is = sym (p-is ∙ ap (dot_allowed id) (slot_is a r 0 l l-is))

  pub start-dot : p ≡ false → false ≡ start_allowed a r id
  unfolding start_allowed
  start-dot e = sym (ap (λ (b : Bool). b && dots_allowed (slot_in a r 1)) (dot-is ∙ e))

  pub start-dots : p ≡ true → (m : List ℕ) (q : Bool) → m ≡ run a (node_file r) (264 * 1) 264 → q ≡ dots_allowed (entry_of m) → q ≡ start_allowed a r id
  unfolding start_allowed
  start-dots e m q m-is q-is =
      q-is ∙ ap dots_allowed (slot_is a r 1 m m-is) ∙ sym (ap (λ (b : Bool). b && dots_allowed (slot_in a r 1)) (dot-is ∙ e))

module _ (a : List ℕ) (t : Table) (id : ℕ) (r : DiskINode) where
  pub folder-parts : folder_allowed a t id r
      ≡ (leb 2 r.blocks && (eqb (length_of a (node_file r)) (264 * r.blocks) && (start_allowed a r id && all_to (slot_allowed a t r) (later_slots r))))
  unfolding folder_allowed start_allowed slot_allowed
  folder-parts =
      ap (λ (b : Bool). leb 2 r.blocks && (eqb (length_of a (node_file r)) (264 * r.blocks) && b))
      (sym (and_assoc (dot_allowed id (slot_in a r 0)) (dots_allowed (slot_in a r 1)) (all_to (λ j. later_allowed a t (later_slot a r j) && is_first a r j) (later_slots r))))

  module _ (some : 2 ≤ r.blocks) (i : ℕ) (i-is : i ≡ r.blocks) (n : ℕ) (n-is : n ≡ pick (there a (node_file r)) (suc (length_of a (node_file r))) 0) where
    length-cases : (n ≡ suc (length_of a (node_file r))) ⊎ ((n ≡ 0) × (length_of a (node_file r) ≡ 0))
    length-cases = ⊎_elim
        (λ (y : there a (node_file r) ≡ true). inl (n-is ∙ ap (λ (x : Bool). pick x (suc (length_of a (node_file r))) 0) y))
        (λ (y : there a (node_file r) ≡ false). inr ((n-is ∙ ap (λ (x : Bool). pick x (suc (length_of a (node_file r))) 0) y), length_none a (node_file r) y))
        (bool_cases (there a (node_file r)))

    length-not : (n ≡ 264 * i + 1 → ⊥) → length_of a (node_file r) ≡ 264 * r.blocks → ⊥
    length-not d e = ⊎_elim
        (λ (y : n ≡ suc (length_of a (node_file r))). d (omega (arith, y, e, i-is)))
        (λ (y : (n ≡ 0) × (length_of a (node_file r) ≡ 0)). absurd (omega (arith, y.1, e, some)))
        length-cases

    length-yes : n ≡ 264 * i + 1 → length_of a (node_file r) ≡ 264 * r.blocks
    length-yes d = ⊎_elim
        (λ (y : n ≡ suc (length_of a (node_file r))). let z : length_of a (node_file r) ≡ 264 * r.blocks = omega (arith, y, d, i-is) in z)
        (λ (y : (n ≡ 0) × (length_of a (node_file r) ≡ 0)). absurd (omega (arith, y.0, d)))
        length-cases

    -- the code's end of the file is the rule's length
    pub length-same : eqb n (264 * i + 1) ≡ eqb (length_of a (node_file r)) (264 * r.blocks)
    length-same =
        elim (ℕ_discrete n (264 * i + 1)) [
          | yes e ↦ eq-eqb n (264 * i + 1) e ∙ sym (eq-eqb (length_of a (node_file r)) (264 * r.blocks) (length-yes e))
          | no d ↦ ne_eqb n (264 * i + 1) d ∙ sym (ne_eqb (length_of a (node_file r)) (264 * r.blocks) (length-not d))
        ]

-- ---- another node

-- a file that is not there has length 0
pub size_is : (a : List ℕ) (r : DiskINode) (n m : ℕ) (v : Bool) → n ≡ pick (there a (node_file r)) (suc (length_of a (node_file r))) 0 → m ≡ n - 1 → v ≡ eqb m r.size → v ≡ size_allowed a r
unfolding size_allowed
size_is a r n m v n-is m-is v-is = v-is ∙ ap (λ (k : ℕ). eqb k r.size) (m-is ∙ go (there a (node_file r)) refl)
  where
    go : (b : Bool) → there a (node_file r) ≡ b → n - 1 ≡ length_of a (node_file r)
    go true e = let z : n ≡ suc (length_of a (node_file r)) = n-is ∙ ap (λ (x : Bool). pick x (suc (length_of a (node_file r))) 0) e in omega arith
    go false e = let z : n ≡ 0 = n-is ∙ ap (λ (x : Bool). pick x (suc (length_of a (node_file r))) 0) e in omega (arith, length_none a (node_file r) e)

-- ---- an id, and all of them

module _ (a : List ℕ) (t : Table) (id : ℕ) where
  module _ (none : false ≡ is_node a id) where
    pub folder-none : true ≡ folder_fine a t id
    unfolding folder_fine is_folder_at
    folder-none = sym (rw (sym none))

    pub size_none : true ≡ size_fine a t id
    unfolding size_fine
    size_none = sym (rw (sym none))

  module _ (node : true ≡ is_node a id) (r : DiskINode) (r-is : r ≡ rec_of a t id) where
    module _ (k : r.kind ≡ 2) where
      kind-yes : is_folder (rec_of a t id).kind ≡ true
      kind-yes = eq-eqb (rec_of a t id).kind 2 (sym (ap (λ (x : DiskINode). x.kind) r-is) ∙ k)

      pub folder-own : (v : Bool) → v ≡ folder_allowed a t id r → v ≡ folder_fine a t id
      unfolding folder_fine is_folder_at
      folder-own v q = q ∙ ap (folder_allowed a t id) r-is ∙ sym (rw (sym node, kind-yes))

      pub size-folder : true ≡ size_fine a t id
      unfolding size_fine
      size-folder = sym (rw (sym node, kind-yes))

    module _ (k : r.kind ≡ 2 → ⊥) where
      kind-no : is_folder (rec_of a t id).kind ≡ false
      kind-no = ne_eqb (rec_of a t id).kind 2 (λ z. k (ap (λ (x : DiskINode). x.kind) r-is ∙ z))

      pub folder-other : true ≡ folder_fine a t id
      unfolding folder_fine is_folder_at
      folder-other = sym (rw (sym node, kind-no))

      pub size-own : (v : Bool) → v ≡ size_allowed a r → v ≡ size_fine a t id
      unfolding size_fine
      size-own v q = q ∙ ap (size_allowed a) r-is ∙ sym (rw (sym node, kind-no))

module _ (a : List ℕ) (t : Table) (n : ℕ) (n-is : n ≡ ids_in a) where
  pub folders-is : all_to (folder_fine a t) n ≡ folders_allowed a t
  unfolding folders_allowed folder_fine
  folders-is = ap (all_to (λ id. not (is_folder_at a t id) || folder_allowed a t id (rec_of a t id))) n-is

  pub sizes-is : all_to (size_fine a t) n ≡ sizes_allowed a t
  unfolding sizes_allowed size_fine
  sizes-is = ap (all_to (λ id. not (is_node a id) || (is_folder (rec_of a t id).kind || size_allowed a (rec_of a t id)))) n-is
