-- Rule 6: its test decides it.
use mathlib.Core.Path.{◌≡◌, refl, sym, ap, subst}
use mathlib.Core.Bool.{Bool, true, false, not, ◌&&◌, ◌||◌}
use mathlib.Core.List.{List, [], ◌∷◌}
use mathlib.Core.Logic.{◌≢◌, inl, inr}
use Prim.Native.Nat.{ℕ, ◌+◌, ◌*◌, ◌-◌, ◌≤◌, ◌<◌}
use native.Mathlib.Omega.{arith}
use lib.Dec.{T}
use lib.ListN.{length}
use Rattle.base.specs.Decides.{Decides}
use Rattle.base.specs.Search.{pick}
use Rattle.base.proofs.Bools.{and_both, and_parts, true-false}
use Rattle.base.proofs.Sames.{test-fails, decides-unless}
use Rattle.base.proofs.Tests.{decides-true, decides-iff, decides_eqb, decides-leb, decides_and, decides_not, decides-if, decides-all, decides-same}
use Rattle.structs.specs.Constants.{type_dir}
use Rattle.structs.specs.Types.{is_folder}
use Rattle.structs.specs.declared.DiskINode.{DiskINode}
use Rattle.structs.specs.declared.DiskEntry.{DiskEntry}
use Rattle.utf8.specs.Utf8.{utf8}
use Rattle.utf8.specs.Names.{name_of, zero_at, has_zero, is_dot, is_dots, is_special, stored_name, EndedAt}
use Rattle.utf8.specs.declared.StoredName.{StoredName}
use Rattle.utf8.specs.declared.StoredName.TheVariants.{Ended, Broken}
use Rattle.utf8.proofs.Names.{stored_is, stored-says}
use Rattle.table.specs.declared.Table.{Table}
use Rattle.files.specs.Read.{length_of}
use Rattle.sefs.specs.Nodes.{node_file}
use Rattle.sefs.specs.Slots.{is_ended}
use Rattle.rules.specs.Image.{ids_in, is_node, rec_of, is_folder_at, slot_in, later_slot, later_slots}
use Rattle.rules.specs.Rules.{Later, Folder, Rule6}
use Rattle.rules.specs.Tests.{test6, dot_allowed, dots_allowed, later_allowed, same_name, is_first, folder_allowed, size_allowed, folders_allowed, sizes_allowed}
use Rattle.rules.proofs.General.{decides_or, decides-none}
use Rattle.rules.proofs.Files.{node-below}

-- a folder is a node, of type 2
pub folder-node : (a : List ℕ) (t : Table) (id : ℕ) → is_folder_at a t id ≡ true → is_node a id ≡ true
unfolding is_folder_at
folder-node a t id e = (and_parts (is_node a id) _ e).0

pub folder-below : (a : List ℕ) (t : Table) (id : ℕ) → is_folder_at a t id ≡ true → id < ids_in a
folder-below a t id e = node-below a id (folder-node a t id e)

-- ---- names

-- the verdict on a stored name is an end only at the first zero
end-here : (zero good : Bool) (k : ℕ) → T (is_ended (pick zero (pick good (Ended k) Broken) Broken)) → pick zero (pick good (Ended k) Broken) Broken ≡ Ended k
end-here true true k x = refl
end-here true false k x = absurd x
end-here false good k x = absurd x

decides-ended : (s : List ℕ) → Decides (is_ended (stored_name s)) (EndedAt s (zero_at s))
unfolding stored_name
decides-ended s = record {
  right = λ x. stored-says s (zero_at s) (end-here (has_zero s) (utf8 (name_of s)) (zero_at s) x);
  left = λ h. subst (λ (v : StoredName). T (is_ended v)) (sym (stored_is s (zero_at s) h)) tt;
}

empty-nil : (l : List ℕ) → length l ≡ 0 → l ≡ []
empty-nil [] e = refl
empty-nil (x ∷ l) e = absurd (omega arith)

decides-plain : (l : List ℕ) → Decides (not (is_special l)) ((l ≢ []) × ((l ≢ 46 ∷ []) × (l ≢ 46 ∷ 46 ∷ [])))
unfolding is_special is_dot is_dots
decides-plain l =
    decides-iff
    (λ n. (λ e. n (inl (ap length e)), (λ e. n (inr (inl e)), λ e. n (inr (inr e)))))
    (λ h x. elim x [ inl e ↦ h.0 (empty-nil l e) | inr y ↦ elim y [ inl e ↦ h.1.0 e | inr e ↦ h.1.1 e ] ])
    (decides_not (decides_or (decides_eqb (length l) 0) (decides_or (decides-same l (46 ∷ [])) (decides-same l (46 ∷ 46 ∷ [])))))

-- ---- slots

decides-later : (a : List ℕ) (t : Table) (e : DiskEntry) → Decides (later_allowed a t e) (Later a t e)
unfolding later_allowed
decides-later a t e =
    decides-iff
    (λ p. record { ended = p.0; some = p.1.0.0; no-dot = p.1.0.1.0; no-dots = p.1.0.1.1; node = p.1.1.0; kind = p.1.1.1 })
    (λ r. (r.ended, ((r.some, (r.no-dot, r.no-dots)), (r.node, r.kind))))
    (decides_and (decides-ended e.name)
    (decides_and (decides-plain (name_of e.name)) (decides_and (decides-true (is_node a e.id)) (decides_eqb (rec_of a t e.id).kind e.kind))))

decides-dot : (id : ℕ) (e : DiskEntry) → Decides (dot_allowed id e) ((e.id ≡ id) × ((e.kind ≡ type_dir) × (name_of e.name ≡ 46 ∷ [])))
unfolding dot_allowed is_dot
decides-dot id e = decides_and (decides_eqb e.id id) (decides_and (decides_eqb e.kind type_dir) (decides-same (name_of e.name) (46 ∷ [])))

decides-dots : (e : DiskEntry) → Decides (dots_allowed e) ((e.kind ≡ type_dir) × (name_of e.name ≡ 46 ∷ 46 ∷ []))
unfolding dots_allowed is_dots
decides-dots e = decides_and (decides_eqb e.kind type_dir) (decides-same (name_of e.name) (46 ∷ 46 ∷ []))

-- no later slot below j has its name
decides-first : (a : List ℕ) (r : DiskINode) (j : ℕ)
    → Decides (is_first a r j) ((i : ℕ) → i < j → name_of (later_slot a r i).name ≢ name_of (later_slot a r j).name)
unfolding is_first same_name
decides-first a r j =
    decides-none (same_name a r j) (λ i. name_of (later_slot a r i).name ≡ name_of (later_slot a r j).name) j
    (λ i. decides-same (name_of (later_slot a r i).name) (name_of (later_slot a r j).name))

-- ---- folders

-- what the test asks of later slot j
LaterAt : List ℕ → Table → DiskINode → ℕ → Type 0
LaterAt a t r j =
    Later a t (later_slot a r j) × ((i : ℕ) → i < j → name_of (later_slot a r i).name ≢ name_of (later_slot a r j).name)

module _ (a : List ℕ) (t : Table) (r : DiskINode) (later : (j : ℕ) → j < later_slots r → LaterAt a t r j) where
  -- slot k is later slot k - 2
  later-slot : (k : ℕ) → 2 ≤ k → k < r.blocks → Later a t (slot_in a r k)
  unfolding LaterAt
  later-slot k g l = subst (λ (i : ℕ). Later a t (slot_in a r i)) (let e : 2 + (k - 2) ≡ k = omega arith in e) (later (k - 2) (omega arith)).0

  later-apart : (j k : ℕ) → 2 ≤ j → j < k → k < r.blocks → name_of (slot_in a r j).name ≢ name_of (slot_in a r k).name
  unfolding LaterAt
  later-apart j k g h l =
      subst (λ (i : ℕ). name_of (slot_in a r i).name ≢ name_of (slot_in a r k).name) (let e : 2 + (j - 2) ≡ j = omega arith in e)
      (subst (λ (i : ℕ). name_of (slot_in a r (2 + (j - 2))).name ≢ name_of (slot_in a r i).name) (let e : 2 + (k - 2) ≡ k = omega arith in e)
      ((later (k - 2) (omega arith)).1 (j - 2) (omega arith)))

pub decides-folder : (a : List ℕ) (t : Table) (id : ℕ) → Decides (folder_allowed a t id (rec_of a t id)) (Folder a t id)
unfolding folder_allowed LaterAt
decides-folder a t id =
    let r : DiskINode = rec_of a t id in
    decides-iff
    (λ p. record {
      blocks = p.0;
      length = p.1.0;
      dot = p.1.1.0.1.1;
      own = p.1.1.0.0;
      dot-kind = p.1.1.0.1.0;
      dots = p.1.1.1.0.1;
      dots-kind = p.1.1.1.0.0;
      later = later-slot a t r p.1.1.1.1;
      distinct = later-apart a t r p.1.1.1.1;
    })
    (λ f. (
      f.blocks,
      (
        f.length,
        (
          (f.own, (f.dot-kind, f.dot)),
          (
            (f.dots-kind, f.dots),
            λ j l. (f.later (2 + j) (omega arith) (omega arith), λ i h. f.distinct (2 + i) (2 + j) (omega arith) (omega arith) (omega arith)),
          ),
        ),
      ),
    ))
    (decides_and (decides-leb 2 r.blocks)
    (decides_and (decides_eqb (length_of a (node_file r)) (264 * r.blocks))
    (decides_and (decides-dot id (slot_in a r 0))
    (decides_and (decides-dots (slot_in a r 1))
    (decides-all (later_slots r) (λ j. later_allowed a t (later_slot a r j) && is_first a r j) (LaterAt a t r)
    (λ j l. decides_and (decides-later a t (later_slot a r j)) (decides-first a r j)))))))

-- ---- all of them

decides-size : (a : List ℕ) (r : DiskINode) → Decides (size_allowed a r) (length_of a (node_file r) ≡ r.size)
unfolding size_allowed
decides-size a r = decides_eqb (length_of a (node_file r)) r.size

module _ (a : List ℕ) (t : Table) where
  pub decides-folders : Decides (folders_allowed a t) ((id : ℕ) → is_folder_at a t id ≡ true → Folder a t id)
  unfolding folders_allowed
  decides-folders =
      decides-iff (λ p id f. p id (folder-below a t id f) f) (λ h id l. h id)
      (decides-all (ids_in a) (λ id. not (is_folder_at a t id) || folder_allowed a t id (rec_of a t id)) (λ id. is_folder_at a t id ≡ true → Folder a t id)
      (λ id l. decides-if (decides-true (is_folder_at a t id)) (decides-folder a t id)))

  -- what the test asks of a node's size
  Sized : ℕ → Type 0
  Sized id = is_node a id ≡ true → (is_folder (rec_of a t id).kind ≡ true → ⊥) → length_of a (node_file (rec_of a t id)) ≡ (rec_of a t id).size

  decides-sizes : Decides (sizes_allowed a t) ((id : ℕ) → is_node a id ≡ true → is_folder_at a t id ≡ false → length_of a (node_file (rec_of a t id)) ≡ (rec_of a t id).size)
  unfolding sizes_allowed Sized is_folder_at
  decides-sizes =
      decides-iff
      (λ p id e n. p id (node-below a id e) e (λ f. true-false (and_both e f) n))
      (λ h id l e n. h id e (test-fails _ (λ x. n (and_parts (is_node a id) _ x).1)))
      (decides-all (ids_in a) (λ id. not (is_node a id) || (is_folder (rec_of a t id).kind || size_allowed a (rec_of a t id))) Sized
      (λ id l. decides-if (decides-true (is_node a id)) (decides-unless (decides-true (is_folder (rec_of a t id).kind)) (decides-size a (rec_of a t id)))))

  pub decides-6 : Decides (test6 a t) (Rule6 a t)
  unfolding test6
  decides-6 = decides-iff (λ p. record { folder = p.0; size = p.1 }) (λ r. (r.folder, r.size)) (decides_and decides-folders decides-sizes)
