-- The counts, slot after slot and folder after folder.
use mathlib.Core.Path.{◌≡◌, refl, sym, ap, subst, ◌∙◌}
use mathlib.Core.Bool.{Bool, true, false}
use mathlib.Core.List.{List}
use Prim.Native.Nat.{ℕ, ◌+◌, ◌*◌, ◌-◌, ◌%◌, ◌≤◌, ◌<◌}
use native.Mathlib.Omega.{arith}
use native.Mathlib.Decide.{ℕ_discrete}
use lib.Dec.{eqb}
use lib.ListN.{length, get_or, set, length-set}
use lib.Seq.{get_or-set_same, get_or-set_other}
use borrow.Author.Tests.{eq-eqb, ne_eqb}
use Rattle.base.specs.Count.{bit, sum_to, count_to}
use Rattle.base.proofs.Bools.{and_both, true-T}
use Rattle.base.proofs.Counts.{sum_to-more, count_to-more, count_to-none}
use Rattle.base.proofs.Lists.{length-tab}
use Rattle.le.specs.Le.{le_at}
use Rattle.structs.specs.Layout.{entry_of}
use Rattle.structs.specs.Types.{is_folder}
use Rattle.structs.specs.declared.DiskINode.{DiskINode}
use Rattle.table.specs.declared.Table.{Table}
use Rattle.files.specs.Read.{byte_at}
use Rattle.sefs.specs.Nodes.{node_file}
use Rattle.rules.specs.Image.{run, ids_in, is_node, rec_of, is_folder_at, slot_in, later_slot, names_in, named, subfolders}
use Rattle.rules.specs.Rules.{Rule1}
use Rattle.rules.specs.Tests.{test5, folders_allowed}
use Rattle.rules.proofs.Files.{node-below, decides-5}
use Rattle.rules.proofs.Folders.{decides-folders}
use Rattle.rules.proofs.Few.{names-few}
use Rattle.fsck_read.specs.Loaded.{Loaded, Of}
use Rattle.fsck_read.proofs.Nodes.{groups-some, ids-is}
use Rattle.fsck_links.specs.Counts.{up_to, Holds, Counted, Below, names_to, names_at, named_to}

-- ---- counts

pub holds_same : (c : List ℕ) (f g : ℕ → ℕ) → Holds c f → ((i : ℕ) → f i ≡ g i) → Holds c g
holds_same c f g H e = record { size = H.size; each = λ i l. H.each i l ∙ ap (λ (x : ℕ). up_to x) (e i) }

-- one more at id
holds-one : (c : List ℕ) (f g : ℕ → ℕ) (id v : ℕ) → Holds c f → id < 4096 → v ≡ up_to (f id + 1) → ((i : ℕ) → g i ≡ f i + bit (eqb id i)) → Holds (set c id v) g
holds-one c f g id v H l e q = record {
  size = length-set c id v ∙ H.size;
  each = λ i b. elim (ℕ_discrete id i) [
    | yes s ↦ (let z : g i ≡ f i + 1 = q i ∙ ap (λ (x : Bool). f i + bit x) (eq-eqb id i s) in
        ap (λ (x : ℕ). get_or (set c id v) x 0) (sym s) ∙ get_or-set_same c id v 0 (omega (arith, H.size)) ∙ e ∙ ap (λ (x : ℕ). up_to (f x + 1)) s ∙ sym (ap (λ (x : ℕ). up_to x) z))
    | no n ↦ (let z : g i ≡ f i + 0 = q i ∙ ap (λ (x : Bool). f i + bit x) (ne_eqb id i n) in
        get_or-set_other c id i v 0 (λ s. n (sym s)) ∙ H.each i b ∙ (omega (arith, z)))
  ];
}

-- ---- one folder

pub slot-size : (a s : List ℕ) (r : DiskINode) (k : ℕ) → s ≡ run a (node_file r) (264 * k) 264 → length s ≡ 264
slot-size a s r k e = ap length e ∙ length-tab (byte_at a (node_file r)) (264 * k) 264

pub slot-id : (a s : List ℕ) (r : DiskINode) (k x : ℕ) → 2 ≤ k → k < r.blocks → Below a r → s ≡ run a (node_file r) (264 * k) 264 → x ≡ le_at s 0 4
    → x % 4096 ≡ (later_slot a r (k - 2)).id
unfolding slot_in entry_of
slot-id a s r k x g l B e q =
    let i : x ≡ (later_slot a r (k - 2)).id = q ∙ ap (λ (y : List ℕ). le_at y 0 4) e ∙ ap (λ (y : ℕ). le_at (run a (node_file r) (264 * y) 264) 0 4) (let e : k ≡ 2 + (k - 2) = omega arith in e) in
    let b : (later_slot a r (k - 2)).id < 4096 = B.later (k - 2) (omega arith) in
    omega (arith, i, b)

module _ (a : List ℕ) (r : DiskINode) (n : ℕ → ℕ) (c : List ℕ) where
  pub folder-none : Holds c n → Holds c (λ i. n i + names_to a r 0 i)
  unfolding names_to
  folder-none H = holds_same c n (λ i. n i + names_to a r 0 i) H
      (λ i. let z : count_to (λ j. eqb (later_slot a r j).id i) 0 ≡ 0 = count_to-none (λ j. eqb (later_slot a r j).id i) 0 (λ j l. absurd (omega arith)) in omega (arith, z))

  pub folder-more : (k id v : ℕ) → 2 ≤ k → id < 4096 → id ≡ (later_slot a r (k - 2)).id → ((x : ℕ) → get_or c id 0 ≡ up_to x → v ≡ up_to (x + 1))
      → Holds c (λ i. n i + names_to a r (k - 2) i) → Holds (set c id v) (λ i. n i + names_to a r (k + 1 - 2) i)
  unfolding names_to
  folder-more k id v g l is m H =
      holds-one c (λ i. n i + names_to a r (k - 2) i) (λ i. n i + names_to a r (k + 1 - 2) i) id v H l (m _ (H.each id l))
      (λ i.
      let p : ℕ → Bool = λ j. eqb (later_slot a r j).id i in
      let z : count_to p (k + 1 - 2) ≡ count_to p (k - 2) + bit (eqb id i) =
      ap (count_to p) (let e : k + 1 - 2 ≡ (k - 2) + 1 = omega arith in e) ∙ count_to-more p (k - 2) ∙ ap (λ (x : ℕ). count_to p (k - 2) + bit (eqb x i)) (sym is) in
      omega (arith, z))

  pub folder-all : (k b : ℕ) → b ≡ r.blocks → 2 ≤ k → b ≤ k → k - 2 ≤ b - 2 → Holds c (λ i. n i + names_to a r (k - 2) i) → Holds c (λ i. n i + names_in a r i)
  unfolding names_to names_in
  folder-all k b e g l h H =
      holds_same c (λ i. n i + names_to a r (k - 2) i) (λ i. n i + names_in a r i) H
      (λ i. ap (λ (x : ℕ). n i + count_to (λ j. eqb (later_slot a r j).id i) x) (let z : k - 2 ≡ r.blocks - 2 = omega arith in z))

-- ---- all folders

pub ids-most : (a m : List ℕ) → Loaded m → Of a m → ids_in a ≤ 4096
ids-most a m L O = omega (arith, ids-is a m O, (groups-some m L).1)

-- by rule 6 each later slot of a folder names a node
pub below-is : (a : List ℕ) (t : Table) (id : ℕ) (r : DiskINode) → ids_in a ≤ 4096 → folders_allowed a t ≡ true → r ≡ rec_of a t id → is_folder_at a t id ≡ true → Below a r
below-is a t id r most e q f =
    let F = (decides-folders a t).right (true-T (folders_allowed a t) e) id f in
    let B : Below a (rec_of a t id) = record { later = λ j l. let b = node-below a _ (F.later (2 + j) (omega arith) (omega arith)).node in omega arith } in
    subst (λ (x : DiskINode). Below a x) (sym q) B

module _ (a : List ℕ) (t : Table) (n : ℕ → ℕ) (c : List ℕ) (id : ℕ) where
  -- no folder
  pub node_skip : is_folder_at a t id ≡ false → Holds c n → Holds c (λ i. n i + names_at a t id i)
  unfolding names_at
  node_skip e H = holds_same c n (λ i. n i + names_at a t id i) H (λ i. let z : names_at a t id i ≡ 0 = rw e refl in omega (arith, z))

  pub node-counted : (r : DiskINode) → r ≡ rec_of a t id → is_folder_at a t id ≡ true → Holds c (λ i. n i + names_in a r i) → Holds c (λ i. n i + names_at a t id i)
  unfolding names_at
  node-counted r q e H =
      holds_same c (λ i. n i + names_in a r i) (λ i. n i + names_at a t id i) H
      (λ i. let z : names_at a t id i ≡ names_in a r i = rw e (ap (λ (x : DiskINode). names_in a x i) (sym q)) in ap (λ (x : ℕ). n i + x) (sym z))

pub folder-at : (a : List ℕ) (t : Table) (id : ℕ) (r : DiskINode) → is_node a id ≡ true → r ≡ rec_of a t id → r.kind ≡ 2 → is_folder_at a t id ≡ true
unfolding is_folder_at
folder-at a t id r n e k = and_both n (eq-eqb _ 2 (ap (λ (x : DiskINode). x.kind) (sym e) ∙ k))

pub no_node : (a : List ℕ) (t : Table) (id : ℕ) → is_node a id ≡ false → is_folder_at a t id ≡ false
unfolding is_folder_at
no_node a t id e = rw e refl

pub other_at : (a : List ℕ) (t : Table) (id : ℕ) (r : DiskINode) → is_node a id ≡ true → r ≡ rec_of a t id → (r.kind ≡ 2 → ⊥) → is_folder_at a t id ≡ false
unfolding is_folder_at
other_at a t id r n e k = rw (n, ne_eqb (rec_of a t id).kind 2 (λ z. k (ap (λ (x : DiskINode). x.kind) e ∙ z))) refl

module _ (a : List ℕ) (t : Table) (c : List ℕ) where
  pub all_none : Holds c (λ i. 0) → Holds c (named_to a t 0)
  unfolding named_to sum_to
  all_none H = holds_same c (λ i. 0) (named_to a t 0) H (λ i. refl)

  pub all_more : (id : ℕ) → Holds c (λ i. named_to a t id i + names_at a t id i) → Holds c (named_to a t (id + 1))
  unfolding named_to
  all_more id H = holds_same c (λ i. named_to a t id i + names_at a t id i) (named_to a t (id + 1)) H (λ i. sym (sum_to-more (λ f. names_at a t f i) id))

  pub all_done : (id n : ℕ) → n ≡ ids_in a → id ≤ n → n ≤ id → Holds c (named_to a t id) → Holds c (named a t)
  unfolding named_to named names_at
  all_done id n e l g H =
      holds_same c (named_to a t id) (named a t) H
      (λ i. ap (sum_to (λ f. names_at a t f i)) (let z : id ≡ n = omega arith in z ∙ e))

-- no arena has as many slots as a count goes
pub counted_is : (a : List ℕ) (t : Table) (c : List ℕ) → Rule1 a → test5 a t ≡ true → folders_allowed a t ≡ true → Holds c (named a t) → Counted a t c
counted_is a t c whole five six H = record {
  size = H.size;
  each = λ id l.
      let few = names-few a t whole ((decides-5 a t).right (true-T (test5 a t) five)) ((decides-folders a t).right (true-T (folders_allowed a t) six)) id in
      H.each id l ∙ (omega (arith, few));
}

-- ---- subfolders

module _ (a : List ℕ) (r : DiskINode) where
  pub sub-none : 0 ≡ count_to (λ j. is_folder (later_slot a r j).kind) 0
  sub-none = sym (count_to-none (λ j. is_folder (later_slot a r j).kind) 0 (λ j l. absurd (omega arith)))

  pub sub_more : (s : List ℕ) (k c x y : ℕ) → 2 ≤ k → s ≡ run a (node_file r) (264 * k) 264 → x ≡ le_at s 260 4 → y ≡ bit (eqb x 2)
      → c ≡ count_to (λ j. is_folder (later_slot a r j).kind) (k - 2) → c + y ≡ count_to (λ j. is_folder (later_slot a r j).kind) (k + 1 - 2)
  unfolding slot_in entry_of
  sub_more s k c x y g e q b h =
      let p : ℕ → Bool = λ j. is_folder (later_slot a r j).kind in
      let i : x ≡ (later_slot a r (k - 2)).kind = q ∙ ap (λ (z : List ℕ). le_at z 260 4) e ∙ ap (λ (z : ℕ). le_at (run a (node_file r) (264 * z) 264) 260 4) (let e : k ≡ 2 + (k - 2) = omega arith in e) in
      let y-is : y ≡ bit (p (k - 2)) = b ∙ ap (λ (z : ℕ). bit (eqb z 2)) i in
      let w : count_to p (k + 1 - 2) ≡ count_to p (k - 2) + bit (p (k - 2)) = ap (count_to p) (let e : k + 1 - 2 ≡ (k - 2) + 1 = omega arith in e) ∙ count_to-more p (k - 2) in
      (λ z. h z + y-is z) ∙ sym w

  pub sub-all : (k b c : ℕ) → b ≡ r.blocks → 2 ≤ k → b ≤ k → k - 2 ≤ b - 2 → c ≡ count_to (λ j. is_folder (later_slot a r j).kind) (k - 2) → c ≡ subfolders a r
  unfolding subfolders
  sub-all k b c e g l h q = q ∙ ap (count_to (λ j. is_folder (later_slot a r j).kind)) (let z : k - 2 ≡ r.blocks - 2 = omega arith in z)
