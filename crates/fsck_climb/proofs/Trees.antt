-- What the code asks is rule 8 of the folders that have a place, where rules 3 to 5 hold, folders are as rule 6 has them and named as rule 7 has it: a
-- folder that has a place is named once, the root apart, so the folder that its slot 1 names is the one that names it just where each slot that names a
-- folder is one of the folder that the named one's slot 1 names.
use mathlib.Core.Path.{◌≡◌, refl, sym, ap, subst, ◌∙◌}
use mathlib.Core.Bool.{Bool, true, false, not, ◌&&◌, ◌||◌, true≢false}
use mathlib.Core.List.{List}
use mathlib.Core.Logic.{◌≢◌, ◌⊎◌, inl, inr, ⊎_elim}
use Prim.Native.Nat.{ℕ, zero, suc, ◌+◌, ◌%◌, ◌≤◌, ◌<◌}
use native.Mathlib.Omega.{arith}
use native.Mathlib.Nat.{zero-add}
use native.Mathlib.Decide.{ℕ_discrete}
use lib.Dec.{eqb, ltb}
use lib.ListN.{get_or}
use borrow.Author.Tests.{eq-eqb, ne_eqb, eqb-true, lt-ltb, ltb-true, leb-true}
use Rattle.base.specs.Count.{sum_to, all_to}
use Rattle.base.specs.Search.{pick, lowest, upd}
use Rattle.base.proofs.Bools.{true-false, bool_cases, and_both, and_parts, or_cases, or-first, or-second, same_bool, true-T}
use Rattle.base.proofs.Counts.{sum_to-change, sum_to-part, all_to-true, all_to-all, count_to-le}
use Rattle.base.proofs.Finds.{count_to-some}
use Rattle.base.proofs.Lists.{length-tab, get_or-tab}
use Rattle.base.proofs.Sames.{test-fails, decided-yes}
use Rattle.base.proofs.Searches.{lowest-hit, lowest-at-most, upd_same, upd_other}
use Rattle.base.proofs.Tests.{decides_eqb}
use Rattle.structs.specs.declared.DiskINode.{DiskINode}
use Rattle.table.specs.declared.Table.{Table}
use Rattle.rules.specs.Image.{ids_in, is_node, rec_of, is_folder_at, slot_in, later_slot, later_slots, names_in, named, parent_of, climb}
use Rattle.rules.specs.Rules.{Rule3, Rule4, Rule5, Later, Folder, Loose, Rooted}
use Rattle.rules.specs.Tests.{named_due, loose, parent_allowed, reaches_root, rooted}
use Rattle.rules.proofs.General.{decides-count}
use Rattle.rules.proofs.Metadata.{decides-3, decides-4}
use Rattle.rules.proofs.Files.{decides-5}
use Rattle.rules.proofs.Folders.{decides-folders, folder-node, folder-below}
use Rattle.rules.proofs.Links.{decides-due, decides-loose}
use Rattle.rules.proofs.Climbs.{reaches, decides-root, decides-rooted}
use Rattle.fsck_read.proofs.Nodes.{node-zero}
use Rattle.fsck_links.specs.Counts.{names_fine, folders_named}
use Rattle.fsck_climb.specs.Way.{Ids, Named, has_place, all_rooted, up_by, up, ups, child_fine, children_fine, climb_by, reaches_in, tree_fine}
use Rattle.fsck_climb.proofs.Places.{place-root, place-named, named-place}
use Rattle.fsck_climb.proofs.Ways.{folder-yes}

-- ---- sums and tests

if-so : (x b : Bool) → x ≡ true → (not x || b) ≡ true → b ≡ true
if-so true b e h = h
if-so false b e h = absurd (true≢false (sym e))

-- two places are no more than the sum
sum-two : (f : ℕ → ℕ) (n i j : ℕ) → i < n → j < n → j ≢ i → f i + f j ≤ sum_to f n
sum-two f n i j li lj ne =
    let g : ℕ → ℕ = upd f i 0 in
    omega (
      arith,
      sum_to-change f g n i li (λ k d. sym (upd_other f i 0 k d)),
      upd_same f i 0,
      sum_to-part g n j lj,
      upd_other f i 0 j ne,
    )

-- a sum that is not 0 has a place that is not
sum-some : (f : ℕ → ℕ) (n : ℕ) → 0 < sum_to f n → (i : ℕ) × (i < n) × (0 < f i)
unfolding sum_to
sum-some f zero h = absurd (omega arith)
sum-some f (suc n) h =
    elim (ℕ_discrete (f n) 0) [
      | yes e ↦ let r = sum-some f n (omega arith) in (r.0, let l = r.1 in omega arith, r.2)
      | no d ↦ (n, omega arith, omega arith)
    ]

pick_some : (b : Bool) (x : ℕ) → 0 < pick b x 0 → (b ≡ true) × (0 < x)
pick_some true x h = (refl, h)
pick_some false x h = absurd (omega arith)

-- ---- what slot 1 names

module _ (a : List ℕ) (t : Table) where
  ups-at : (i : ℕ) → i < 4096 → get_or (ups a t) i 0 ≡ up a t i
  unfolding ups
  ups-at i l = get_or-tab (up a t) 0 4096 i l ∙ ap (up a t) (zero-add i)

  below-least : (b : Bool) (x : ℕ) → ltb x 4096 ≡ b → pick b x 0 < 4096
  below-least true x e = ltb-true x 4096 e
  below-least false x e = omega arith

  up-below : (i : ℕ) → up a t i < 4096
  unfolding up up_by
  up-below i = go (is_folder_at a t i) (below-least (ltb (slot_in a (rec_of a t i) 1).id 4096) (slot_in a (rec_of a t i) 1).id refl)
    where
      go : (b : Bool) {x : ℕ} → x < 4096 → pick b x 0 < 4096
      go true l = l
      go false l = omega arith

  ups-ids : Ids (ups a t)
  unfolding ups
  ups-ids = record { size = length-tab (up a t) 0 4096; each = λ i l. omega (arith, ups-at i l, up-below i) }

  up_is : (id : ℕ) → is_folder_at a t id ≡ true → parent_of a t id < 4096 → up a t id ≡ parent_of a t id
  unfolding up up_by parent_of
  up_is id f l = rw (f, lt-ltb (slot_in a (rec_of a t id) 1).id 4096 l) refl

  up-not-zero : (id : ℕ) → up a t id ≢ 0 → up a t id ≡ parent_of a t id
  unfolding up up_by parent_of
  up-not-zero id = go (is_folder_at a t id) (ltb (slot_in a (rec_of a t id) 1).id 4096) (slot_in a (rec_of a t id) 1).id
    where
      go : (b c : Bool) (x : ℕ) → pick b (pick c x 0) 0 ≢ 0 → pick b (pick c x 0) 0 ≡ x
      go true true x n = refl
      go true false x n = absurd (n refl)
      go false c x n = absurd (n refl)

  not-zero : (id : ℕ) → is_folder_at a t id ≡ true → id ≢ 0
  not-zero id f z = true-false (folder-node a t id f) (sym (node-zero a id z))

  up-zero : up a t 0 ≡ 0
  unfolding up
  up-zero = rw (test-fails (is_folder_at a t 0) (λ f. not-zero 0 f refl)) refl

-- ---- folders that have a place

record Placed (a : List ℕ) (t : Table) (id : ℕ) : Type 0 where
  folder : is_folder_at a t id ≡ true
  place : has_place a t id ≡ true

module _ (a : List ℕ) (t : Table) (N : Named a t) where
  rule3 : Rule3 a
  rule3 = (decides-3 a).right (true-T _ N.rule3)

  rule4 : Rule4 a t
  rule4 = (decides-4 a t).right (true-T _ N.rule4)

  rule5 : Rule5 a t
  rule5 = (decides-5 a t).right (true-T _ N.rule5)

  folders : (id : ℕ) → is_folder_at a t id ≡ true → Folder a t id
  folders = (decides-folders a t).right (true-T _ N.folders)

  ids-few : ids_in a ≤ 4096
  ids-few = omega (arith, rule3.few)

  folder-low : (id : ℕ) → is_folder_at a t id ≡ true → id < 4096
  folder-low id f = omega (arith, folder-below a t id f, ids-few)

  -- a folder is named as it has to be, or is loose
  due-or-loose : (id : ℕ) → is_folder_at a t id ≡ true → ((id ≡ 2 → named a t id ≡ 0) × (id ≢ 2 → named a t id ≡ 1)) ⊎ ((id ≢ 2) × Loose a t id)
  unfolding folders_named names_fine
  due-or-loose id f =
      ⊎_elim
      (λ d. inl ((decides-due a t id).right (true-T _ d)))
      (λ l. inr ((decides-loose a t id).right (true-T _ l)))
      (or_cases (named_due a t id) (loose a t id (rec_of a t id))
      (if-so (is_folder_at a t id) _ f (all_to-true (names_fine a t) (ids_in a) N.names id (folder-below a t id f))))

  root-placed : Placed a t 2
  unfolding is_folder_at is_node
  root-placed = record {
    folder = and_both (and_both (lt-ltb 2 (ids_in a) (omega (arith, rule3.some))) (rw rule4.two refl)) (eq-eqb _ _ rule5.root);
    place = place-root a t;
  }

  -- a folder that names another has more than 2 slots, so it is not a loose one
  naming-placed : (id p : ℕ) → is_folder_at a t p ≡ true → 0 < names_in a (rec_of a t p) id → Placed a t p
  unfolding names_in
  naming-placed id p f h =
      record {
        folder = f;
        place = ⊎_elim
            (λ d. elim (ℕ_discrete p 2) [
              | yes e ↦ subst (λ (x : ℕ). has_place a t x ≡ true) (sym e) (place-root a t)
              | no n ↦ place-named a t p (λ z. omega (arith, d.1 n))
            ])
            (λ l. absurd (omega (arith, l.1.slots, count_to-le (λ j. eqb (later_slot a (rec_of a t p) j).id id) (later_slots (rec_of a t p)))))
            (due-or-loose p f);
      }

  -- how often folder f names id
  abbrev times : ℕ → ℕ → ℕ
  times id f = pick (is_folder_at a t f) (names_in a (rec_of a t f) id) 0

  times-is : (id f : ℕ) → is_folder_at a t f ≡ true → times id f ≡ names_in a (rec_of a t f) id
  times-is id f e = rw e refl

  named-is : (id : ℕ) → named a t id ≡ sum_to (times id) (ids_in a)
  unfolding named
  named-is id = refl

  -- a folder that is named is named once
  once : (id f : ℕ) → is_folder_at a t id ≡ true → is_folder_at a t f ≡ true → 0 < names_in a (rec_of a t f) id → Placed a t id × ((id ≢ 2) × (named a t id ≡ 1))
  once id f e g h =
      let some : 0 < named a t id = omega (arith, named-is id, times-is id f g, sum_to-part (times id) (ids_in a) f (folder-below a t f g)) in
      ⊎_elim
      (λ d.
      let apart : id ≢ 2 = λ z. omega (arith, d.0 z) in
      (record { folder = e; place = place-named a t id (λ z. omega arith) }, (apart, d.1 apart)))
      (λ l. absurd (omega (arith, l.1.unnamed)))
      (due-or-loose id e)

  -- so two that name it are one
  one : (id f g : ℕ) → named a t id ≡ 1 → is_folder_at a t f ≡ true → is_folder_at a t g ≡ true → 0 < names_in a (rec_of a t f) id → 0 < names_in a (rec_of a t g) id → f ≡ g
  one id f g e ff fg hf hg =
      elim (ℕ_discrete f g) [
        | yes q ↦ q
        | no d ↦ absurd (omega (
          arith,
          named-is id,
          times-is id f ff,
          times-is id g fg,
          sum-two (times id) (ids_in a) g f (folder-below a t g fg) (folder-below a t f ff) d,
        ))
      ]

  -- ---- the test gives what the code asks

  module _ (all : all_rooted a t ≡ true) where
    allowed : (id : ℕ) → Placed a t id → (parent_allowed a t id ≡ true) × (reaches_root a t id ≡ true)
    unfolding all_rooted rooted
    allowed id v =
        and_parts (parent_allowed a t id) (reaches_root a t id)
        (if-so (is_folder_at a t id && has_place a t id) (parent_allowed a t id && reaches_root a t id) (and_both v.folder v.place)
        (all_to-true (λ i. not (is_folder_at a t i && has_place a t i) || rooted a t i) (ids_in a) all id (folder-below a t id v.folder)))

    parent-root : parent_of a t 2 ≡ 2
    unfolding parent_allowed
    parent-root =
        eqb-true (parent_of a t 2) 2
        (subst (λ (x : Bool). pick x (eqb (parent_of a t 2) 2) (is_folder_at a t (parent_of a t 2) && ltb 0 (names_in a (rec_of a t (parent_of a t 2)) 2)) ≡ true) (eq-eqb 2 2 refl) (allowed 2 root-placed).0)

    parent-names : (id : ℕ) → Placed a t id → id ≢ 2 → (is_folder_at a t (parent_of a t id) ≡ true) × (0 < names_in a (rec_of a t (parent_of a t id)) id)
    unfolding parent_allowed
    parent-names id v n =
        let h =
        and_parts (is_folder_at a t (parent_of a t id)) (ltb 0 (names_in a (rec_of a t (parent_of a t id)) id))
        (subst (λ (x : Bool). pick x (eqb (parent_of a t 2) 2) (is_folder_at a t (parent_of a t id) && ltb 0 (names_in a (rec_of a t (parent_of a t id)) id)) ≡ true) (ne_eqb id 2 n) (allowed id v).0)
        in
        (h.0, ltb-true 0 (names_in a (rec_of a t (parent_of a t id)) id) h.1)

    placed-up : (id : ℕ) → Placed a t id → Placed a t (parent_of a t id)
    placed-up id v =
        elim (ℕ_discrete id 2) [
          | yes e ↦ subst (Placed a t) (sym (ap (parent_of a t) e ∙ parent-root)) root-placed
          | no n ↦ let h = parent-names id v n in naming-placed id (parent_of a t id) h.0 h.1
        ]

    up-placed : (id : ℕ) → Placed a t id → get_or (ups a t) id 0 ≡ parent_of a t id
    up-placed id v =
        ups-at a t id (folder-low id v.folder) ∙ up_is a t id v.folder (folder-low (parent_of a t id) (placed-up id v).folder)

    climbs-same : (id : ℕ) → Placed a t id → (n : ℕ) → (climb_by (ups a t) id n ≡ climb a t id n) × Placed a t (climb a t id n)
    unfolding climb_by climb
    climbs-same id v zero = (refl, v)
    climbs-same id v (suc n) =
        let r = climbs-same id v n in
        (ap (λ (x : ℕ). get_or (ups a t) x 0) r.0 ∙ up-placed (climb a t id n) r.1, placed-up (climb a t id n) r.1)

    reach-fine : (id : ℕ) → Placed a t id → reaches_in (ups a t) id 4097 ≡ true
    unfolding reaches_in reaches_root
    reach-fine id v =
        let p : ℕ → Bool = λ n. eqb (climb a t id n) 2 in
        let q : ℕ → Bool = λ n. eqb (climb_by (ups a t) id n) 2 in
        let m : ℕ = lowest p (suc (ids_in a)) in
        let l = leb-true m (ids_in a) (allowed id v).1 in
        let e : q m ≡ true = ap (λ (x : ℕ). eqb x 2) (climbs-same id v m).0 ∙ lowest-hit p (suc (ids_in a)) (omega arith) in
        lt-ltb (lowest q 4097) 4097 (omega (arith, ids-few, lowest-at-most q 4097 m (omega (arith, ids-few)) e))

    child-fine : (id : ℕ) → Placed a t id → (j : ℕ) → j < later_slots (rec_of a t id) → child_fine a (ups a t) (rec_of a t id) id (2 + j) ≡ true
    unfolding child_fine names_in
    child-fine id v j l =
        let r : DiskINode = rec_of a t id in
        let c : ℕ = (later_slot a r j).id in
        let L : Later a t (later_slot a r j) = (folders id v.folder).later (2 + j) (omega arith) (omega arith) in
        ⊎_elim
        (λ e. or-second (not (eqb (later_slot a r j).kind 2)) (
        let f : is_folder_at a t c ≡ true = folder-yes a t c (rec_of a t c) refl L.node (L.kind ∙ eqb-true (later_slot a r j).kind 2 e) in
        let h : 0 < names_in a r c = count_to-some (λ i. eqb (later_slot a r i).id c) (later_slots r) j l (eq-eqb c c refl) in
        let o = once c id f v.folder h in
        let g = parent-names c o.0 o.1.0 in
        let m : c % 4096 ≡ c = omega (arith, folder-low c f) in
        eq-eqb _ id (ap (λ (x : ℕ). get_or (ups a t) x 0) m ∙ up-placed c o.0 ∙ one c (parent_of a t c) id o.1.1 g.0 v.folder g.1 h)))
        (λ e. or-first _ (ap not e))
        (bool_cases (eqb (later_slot a r j).kind 2))

    fine-root : get_or (ups a t) 2 0 ≡ 2
    fine-root = up-placed 2 root-placed ∙ parent-root

    fine-all : all_to (tree_fine a t (ups a t)) (ids_in a) ≡ true
    unfolding tree_fine children_fine
    fine-all =
        all_to-all (tree_fine a t (ups a t)) (ids_in a)
        (λ id l. ⊎_elim
        (λ e.
        let p = and_parts (is_folder_at a t id) (has_place a t id) e in
        let v : Placed a t id = record { folder = p.0; place = p.1 } in
        or-second (not (is_folder_at a t id && has_place a t id))
        (and_both (all_to-all (λ j. child_fine a (ups a t) (rec_of a t id) id (2 + j)) (later_slots (rec_of a t id)) (child-fine id v)) (reach-fine id v)))
        (λ e. or-first _ (ap not e))
        (bool_cases (is_folder_at a t id && has_place a t id)))

  -- ---- what the code asks gives the test

  module _ (root : get_or (ups a t) 2 0 ≡ 2) (all : all_to (tree_fine a t (ups a t)) (ids_in a) ≡ true) where
    fine : (id : ℕ) → Placed a t id → (children_fine a (ups a t) (rec_of a t id) id ≡ true) × (reaches_in (ups a t) id 4097 ≡ true)
    unfolding tree_fine
    fine id v =
        and_parts (children_fine a (ups a t) (rec_of a t id) id) (reaches_in (ups a t) id 4097)
        (if-so (is_folder_at a t id && has_place a t id) _ (and_both v.folder v.place) (all_to-true (tree_fine a t (ups a t)) (ids_in a) all id (folder-below a t id v.folder)))

    -- the slot that names a folder
    record Namer (id : ℕ) : Type 0 where
      by : ℕ
      placed : Placed a t by
      slot : ℕ
      inside : slot < later_slots (rec_of a t by)
      names : (later_slot a (rec_of a t by) slot).id ≡ id

    namer : (id : ℕ) → Placed a t id → id ≢ 2 → Namer id
    unfolding names_in
    namer id v n =
        let o = named-place a t id v.place n in
        let s = sum-some (times id) (ids_in a) (omega (arith, named-is id, o)) in
        let h = pick_some (is_folder_at a t s.0) (names_in a (rec_of a t s.0) id) s.2 in
        let r : DiskINode = rec_of a t s.0 in
        let w = (decides-count (λ j. eqb (later_slot a r j).id id) (λ j. (later_slot a r j).id ≡ id) (later_slots r) (λ j. decides_eqb (later_slot a r j).id id)).right (true-T _ (lt-ltb 0 _ h.1)) in
        record { by = s.0; placed = naming-placed id s.0 h.0 h.1; slot = w.0; inside = w.1; names = w.2 }

    -- that folder is the one that slot 1 names
    parent_is : (id : ℕ) (v : Placed a t id) (F : Namer id) → parent_of a t id ≡ F.by
    unfolding children_fine child_fine is_folder_at
    parent_is id v F =
        let f : ℕ = F.by in
        let r : DiskINode = rec_of a t f in
        let j : ℕ = F.slot in
        let i = F.inside in
        let L : Later a t (later_slot a r j) = (folders f F.placed.folder).later (2 + j) (omega arith) (omega arith) in
        let k : (later_slot a r j).kind ≡ 2 = sym L.kind ∙ ap (λ (x : ℕ). (rec_of a t x).kind) F.names ∙ eqb-true (rec_of a t id).kind 2 (and_parts (is_node a id) _ v.folder).1 in
        let e = eqb-true _ f (if-so (eqb (later_slot a r j).kind 2) _ (eq-eqb _ 2 k) (all_to-true (λ x. child_fine a (ups a t) r f (2 + x)) (later_slots r) (fine f F.placed).0 j i)) in
        let m : (later_slot a r j).id % 4096 ≡ id = omega (arith, F.names, folder-low id v.folder) in
        let u : up a t id ≡ f = sym (ups-at a t id (folder-low id v.folder)) ∙ sym (ap (λ (x : ℕ). get_or (ups a t) x 0) m) ∙ e in
        sym (up-not-zero a t id (λ z. not-zero a t f F.placed.folder (sym u ∙ z))) ∙ u

    climb-low : (id : ℕ) → id < 4096 → (n : ℕ) → climb_by (ups a t) id n < 4096
    unfolding climb_by
    climb-low id l zero = l
    climb-low id l (suc n) = (ups-ids a t).each (climb_by (ups a t) id n) (climb-low id l n)

    -- a way by the list that is not lost is the way by slot 1
    way_same : (id : ℕ) → id < 4096 → (n : ℕ) → climb_by (ups a t) id n ≢ 0 → climb a t id n ≡ climb_by (ups a t) id n
    unfolding climb_by climb
    way_same id l zero h = refl
    way_same id l (suc n) h =
        let c : ℕ = climb_by (ups a t) id n in
        let e : get_or (ups a t) c 0 ≡ up a t c = ups-at a t c (climb-low id l n) in
        let u : up a t c ≢ 0 = λ z. h (e ∙ z) in
        let d : c ≢ 0 = λ z. u (ap (up a t) z ∙ up-zero a t) in
        ap (parent_of a t) (way_same id l n d) ∙ sym (up-not-zero a t c u) ∙ sym e

    way : (id : ℕ) → Placed a t id → (n : ℕ) × (climb a t id n ≡ 2)
    unfolding reaches_in
    way id v =
        let q : ℕ → Bool = λ n. eqb (climb_by (ups a t) id n) 2 in
        let m : ℕ = lowest q 4097 in
        let e : climb_by (ups a t) id m ≡ 2 = eqb-true _ 2 (lowest-hit q 4097 (ltb-true m 4097 (fine id v).1)) in
        (m, way_same id (folder-low id v.folder) m (λ z. omega arith) ∙ e)

    parent-two : parent_of a t 2 ≡ 2
    parent-two =
        let u : up a t 2 ≡ 2 = sym (ups-at a t 2 (omega arith)) ∙ root in
        sym (up-not-zero a t 2 (λ z. omega arith)) ∙ u

    onward : (id : ℕ) → Placed a t id → id ≢ 2 → Placed a t (parent_of a t id)
    onward id v n = let F = namer id v n in subst (Placed a t) (sym (parent_is id v F)) F.placed

    -- so the folder is rooted
    root-id : (id : ℕ) → Placed a t id → id ≢ 2 → Rooted a t id
    root-id id v n =
        let F = namer id v n in
        let i = F.inside in
        record {
          parent = (onward id v n).folder;
          names = subst (λ (x : ℕ). (k : ℕ) × (2 ≤ k) × (k < (rec_of a t x).blocks) × ((slot_in a (rec_of a t x) k).id ≡ id)) (sym (parent_is id v F))
              (2 + F.slot, omega arith, omega arith, F.names);
          climbs = way id v;
        }

    rooted-is : (id : ℕ) → Placed a t id → rooted a t id ≡ true
    rooted-is id v =
        elim (ℕ_discrete id 2) [
          | yes e ↦ subst (λ (x : ℕ). rooted a t x ≡ true) (sym e) (decided-yes (decides-root a t) parent-two)
          | no n ↦ decided-yes (decides-rooted a t id n) (root-id id v n, reaches a t (Placed a t) (λ i w. w.folder) onward id v (way id v))
        ]

    fine-test : all_rooted a t ≡ true
    unfolding all_rooted
    fine-test =
        all_to-all (λ i. not (is_folder_at a t i && has_place a t i) || rooted a t i) (ids_in a)
        (λ id l. ⊎_elim
        (λ e.
        let p = and_parts (is_folder_at a t id) (has_place a t id) e in
        or-second (not (is_folder_at a t id && has_place a t id)) (rooted-is id (record { folder = p.0; place = p.1 })))
        (λ e. or-first _ (ap not e))
        (bool_cases (is_folder_at a t id && has_place a t id)))

  -- ---- the two ways out

  module _ (p : List ℕ) (p-is : p ≡ ups a t) where
    pub rooted-not : get_or p 2 0 ≢ 2 → false ≡ all_rooted a t
    rooted-not n = sym (test-fails (all_rooted a t) (λ h. n (ap (λ (x : List ℕ). get_or x 2 0) p-is ∙ fine-root h)))

    pub rooted-all : (b : Bool) → get_or p 2 0 ≡ 2 → b ≡ all_to (tree_fine a t p) (ids_in a) → b ≡ all_rooted a t
    rooted-all b r q =
        q ∙ ap (λ (x : List ℕ). all_to (tree_fine a t x) (ids_in a)) p-is
        ∙ same_bool (all_to (tree_fine a t (ups a t)) (ids_in a)) (all_rooted a t) (fine-test (sym (ap (λ (x : List ℕ). get_or x 2 0) p-is) ∙ r)) fine-all

pub ids-of : (a : List ℕ) (t : Table) (p : List ℕ) → p ≡ ups a t → Ids p
ids-of a t p e = subst Ids (sym e) (ups-ids a t)
