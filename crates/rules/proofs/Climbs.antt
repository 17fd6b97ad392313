-- Rule 8: its test decides it, in an image that the earlier rules allow. The rule says that climbing reaches node 2, the test that it does in as
-- many steps as there are ids: a way up leads through folders, by rule 7 through such as have links, and the shortest one through no folder twice.
use mathlib.Core.Path.{◌≡◌, refl, sym, ap, subst, ◌∙◌}
use mathlib.Core.Bool.{Bool, true}
use mathlib.Core.List.{List}
use mathlib.Core.Logic.{◌≢◌, ⊎_elim}
use Prim.Native.Nat.{ℕ, zero, suc, ◌+◌, ◌-◌, ◌≤◌, ◌<◌}
use native.Mathlib.Nat.{add-zero, add-suc}
use native.Mathlib.Decide.{ℕ_discrete}
use native.Mathlib.Omega.{arith}
use lib.Dec.{eqb, ltb}
use borrow.Author.Tests.{eq-eqb, eqb-true, eqb-false, lt-ltb, le-leb, leb-true}
use Rattle.base.specs.Decides.{Decides}
use Rattle.base.specs.Search.{lowest}
use Rattle.base.proofs.Bools.{and_both, true-T}
use Rattle.base.proofs.Counts.{pigeon}
use Rattle.base.proofs.Numbers.{lt-or-le}
use Rattle.base.proofs.Sames.{decided-yes}
use Rattle.base.proofs.Searches.{lowest-first, lowest-hit, lowest-at-most}
use Rattle.base.proofs.Tests.{decides-true, decides-iff, decides_eqb, decides_and, decides-if, decides-all}
use Rattle.structs.specs.declared.DiskINode.{DiskINode}
use Rattle.table.specs.declared.Table.{Table}
use Rattle.rules.specs.Image.{ids_in, is_node, rec_of, is_folder_at, slot_in, later_slot, later_slots, names_in, parent_of, climb}
use Rattle.rules.specs.Rules.{Rule3, Rule4, Rule5, Loose, Rule7, Rooted, Rule8}
use Rattle.rules.specs.Tests.{test8, parent_allowed, reaches_root, rooted, tree_allowed}
use Rattle.rules.proofs.General.{decides-ne, decides-pick, decides-count}
use Rattle.rules.proofs.Folders.{folder-below}

-- ---- climbing

climb-suc : (a : List ℕ) (t : Table) (id n : ℕ) → climb a t id (suc n) ≡ parent_of a t (climb a t id n)
unfolding climb
climb-suc a t id n = refl

-- two ways that meet go on as one
climb-meet : (a : List ℕ) (t : Table) (id i j n : ℕ) → climb a t id i ≡ climb a t id j → climb a t id (i + n) ≡ climb a t id (j + n)
climb-meet a t id i j zero e = rw (add-zero i, add-zero j) e
climb-meet a t id i j (suc n) e =
    rw (add-suc i n, add-suc j n) (climb-suc a t id (i + n) ∙ ap (parent_of a t) (climb-meet a t id i j n e) ∙ sym (climb-suc a t id (j + n)))

-- a slot of folder r names id
Names : List ℕ → DiskINode → ℕ → Type 0
Names a r id = (k : ℕ) × (2 ≤ k) × (k < r.blocks) × ((slot_in a r k).id ≡ id)

decides-names : (a : List ℕ) (r : DiskINode) (id : ℕ) → Decides (ltb 0 (names_in a r id)) (Names a r id)
unfolding names_in Names
decides-names a r id =
    decides-iff
    (λ h. (2 + h.0, omega arith, let l = h.1 in omega arith, h.2))
    (λ h.
    let g = h.1 in
    let l = h.2 in
    (h.0 - 2, omega arith, ap (λ (k : ℕ). (slot_in a r k).id) (let e : 2 + (h.0 - 2) ≡ h.0 = omega arith in e) ∙ h.3))
    (decides-count (λ j. eqb (later_slot a r j).id id) (λ j. (later_slot a r j).id ≡ id) (later_slots r) (λ j. decides_eqb (later_slot a r j).id id))

-- a folder that names another has more than 2 slots
pub parent-full : (a : List ℕ) (t : Table) (id : ℕ) → Rooted a t id → Loose a t (parent_of a t id) → ⊥
parent-full a t id r o = let k = r.names in omega (arith, k.1, k.2, o.slots)

-- ---- the steps are few, where each place on the way is a folder

module _ (a : List ℕ) (t : Table)
    (On : ℕ → Type 0)
    (folder : (id : ℕ) → On id → is_folder_at a t id ≡ true)
    (next : (id : ℕ) → On id → id ≢ 2 → On (parent_of a t id))
    (id : ℕ) (start : On id) where
  -- n is the least number of steps to node 2
  module _ (n : ℕ) (there : climb a t id n ≡ 2) (before : (i : ℕ) → i < n → climb a t id i ≢ 2) where
    on-way : (i : ℕ) → i ≤ n → On (climb a t id i)
    unfolding climb
    on-way zero l = start
    on-way (suc i) l = next (climb a t id i) (on-way i (omega arith)) (before i (omega arith))

    -- from a folder that is met twice, the steps after the second time lead to node 2 after the first
    short : (i j : ℕ) → i < j → j ≤ n → climb a t id i ≡ climb a t id j → ⊥
    short i j l g e =
        before (i + (n - j)) (omega arith)
        (climb-meet a t id i j (n - j) e ∙ ap (climb a t id) (let q : j + (n - j) ≡ n = omega arith in q) ∙ there)

    apart : (i j : ℕ) → i < suc n → j < suc n → climb a t id i ≡ climb a t id j → i ≡ j
    apart i j li lj e =
        ⊎_elim
        (λ l. absurd (short i j l (omega arith) e))
        (λ g. ⊎_elim (λ l. absurd (short j i l (omega arith) (sym e))) (λ h. let q : i ≡ j = omega arith in q) (lt-or-le j i))
        (lt-or-le i j)

    soon : n < ids_in a
    soon = pigeon (suc n) (ids_in a) (climb a t id) (λ i l. folder-below a t (climb a t id i) (folder (climb a t id i) (on-way i (omega arith)))) apart

  pub reaches : (n : ℕ) × (climb a t id n ≡ 2) → reaches_root a t id ≡ true
  unfolding reaches_root
  reaches w =
      let p : ℕ → Bool = λ n. eqb (climb a t id n) 2 in
      let g = lowest-at-most p (suc w.0) w.0 (omega arith) (eq-eqb _ 2 w.1) in
      let n : ℕ = lowest p (suc w.0) in
      let e : p n ≡ true = lowest-hit p (suc w.0) (omega arith) in
      let l = soon n (eqb-true _ 2 e) (λ i h. eqb-false _ 2 ((lowest-first p (suc w.0)).before i h)) in
      le-leb (lowest p (suc (ids_in a))) (ids_in a) (omega (arith, lowest-at-most p (suc (ids_in a)) n (omega arith) e))

reached : (a : List ℕ) (t : Table) (id : ℕ) → reaches_root a t id ≡ true → (n : ℕ) × (climb a t id n ≡ 2)
unfolding reaches_root
reached a t id e =
    let p : ℕ → Bool = λ n. eqb (climb a t id n) 2 in
    (lowest p (suc (ids_in a)), eqb-true _ 2 (lowest-hit p (suc (ids_in a)) (omega (arith, leb-true (lowest p (suc (ids_in a))) (ids_in a) e))))

-- from node 2 no step is to be climbed
root-reached : (a : List ℕ) (t : Table) → reaches_root a t 2 ≡ true
unfolding reaches_root climb
root-reached a t =
    let l = lowest-at-most (λ n. eqb (climb a t 2 n) 2) (suc (ids_in a)) 0 (omega arith) (eq-eqb (climb a t 2 0) 2 refl) in
    le-leb (lowest (λ n. eqb (climb a t 2 n) 2) (suc (ids_in a))) (ids_in a) (omega arith)

-- ---- one folder

module _ (a : List ℕ) (t : Table) where
  -- what the test asks of slot 1
  Parent : ℕ → Type 0
  Parent id =
      (id ≡ 2 → parent_of a t 2 ≡ 2) × (id ≢ 2 → (is_folder_at a t (parent_of a t id) ≡ true) × Names a (rec_of a t (parent_of a t id)) id)

  decides-parent : (id : ℕ) → Decides (parent_allowed a t id) (Parent id)
  unfolding parent_allowed Parent
  decides-parent id =
      decides-pick (decides_eqb id 2) (decides_eqb (parent_of a t 2) 2)
      (decides_and (decides-true (is_folder_at a t (parent_of a t id))) (decides-names a (rec_of a t (parent_of a t id)) id))

  decides-clauses : (id : ℕ) → Decides (rooted a t id) (Parent id × (reaches_root a t id ≡ true))
  unfolding rooted
  decides-clauses id = decides_and (decides-parent id) (decides-true (reaches_root a t id))

  -- the root, and another
  pub decides-root : Decides (rooted a t 2) (parent_of a t 2 ≡ 2)
  unfolding Parent
  decides-root = decides-iff (λ p. p.0.0 refl) (λ e. ((λ _. e, λ d. absurd (d refl)), root-reached a t)) (decides-clauses 2)

  pub decides-rooted : (id : ℕ) → id ≢ 2 → Decides (rooted a t id) (Rooted a t id × (reaches_root a t id ≡ true))
  unfolding Parent Names
  decides-rooted id d =
      decides-iff
      (λ p. (record { parent = (p.0.1 d).0; names = (p.0.1 d).1; climbs = reached a t id p.1 }, p.1))
      (λ r. ((λ e. absurd (d e), λ _. (r.0.parent, r.0.names)), r.1))
      (decides-clauses id)

-- ---- the rule

-- a folder with links
record Living (a : List ℕ) (t : Table) (id : ℕ) : Type 0 where
  folder : is_folder_at a t id ≡ true
  links : (rec_of a t id).nlinks ≢ 0

-- node 2 is a folder
pub root-folder : (a : List ℕ) (t : Table) → Rule3 a → Rule4 a t → Rule5 a t → is_folder_at a t 2 ≡ true
unfolding is_folder_at is_node
root-folder a t r3 r4 r5 = and_both (and_both (lt-ltb 2 (ids_in a) (omega (arith, r3.some))) (rw r4.two refl)) (eq-eqb _ _ r5.root)

module _ (a : List ℕ) (t : Table) where
  -- one that names another is not removed
  parent-lives : Rule7 a t → (id : ℕ) → Rooted a t id → Living a t (parent_of a t id)
  parent-lives r7 id r =
      record {
        folder = r.parent;
        links = λ z. ⊎_elim (λ l. omega (arith, l.links)) (λ o. parent-full a t id r o.loose) (r7.folder (parent_of a t id) r.parent);
      }

  -- what the rule says of a folder gives the test
  tree-true : Rule7 a t → Rule8 a t → (id : ℕ) → Living a t id → rooted a t id ≡ true
  tree-true r7 r8 id v =
      elim (ℕ_discrete id 2) [
        | yes e ↦ subst (λ (i : ℕ). rooted a t i ≡ true) (sym e) (decided-yes (decides-root a t) (r8.root (subst (λ (i : ℕ). (rec_of a t i).nlinks ≢ 0) e v.links)))
        | no d ↦
            let r : (i : ℕ) → Living a t i → i ≢ 2 → Rooted a t i = λ i w. r8.folder i w.folder w.links in
            decided-yes (decides-rooted a t id d)
            (r id v d, reaches a t (Living a t) (λ i w. w.folder) (λ i w n. parent-lives r7 i (r i w n)) id v (r id v d).climbs)
      ]

  -- what the test asks of an id
  Asked : ℕ → Type 0
  Asked id = (is_folder_at a t id ≡ true) × ((rec_of a t id).nlinks ≢ 0) → rooted a t id ≡ true

  decides-tree : (id : ℕ) → Decides (tree_allowed a t id) (Asked id)
  unfolding tree_allowed Asked
  decides-tree id =
      decides-if (decides_and (decides-true (is_folder_at a t id)) (decides-ne (rec_of a t id).nlinks 0)) (decides-true (rooted a t id))

  pub decides-8 : Rule3 a → Rule4 a t → Rule5 a t → Rule7 a t → Decides (test8 a t) (Rule8 a t)
  unfolding test8 Asked
  decides-8 r3 r4 r5 r7 =
      decides-iff
      (λ p.
      let tree : (id : ℕ) → is_folder_at a t id ≡ true → (rec_of a t id).nlinks ≢ 0 → rooted a t id ≡ true = λ id f n. p id (folder-below a t id f) (f, n) in
      record {
        root = λ n. (decides-root a t).right (true-T _ (tree 2 (root-folder a t r3 r4 r5) n));
        folder = λ id f n d. ((decides-rooted a t id d).right (true-T _ (tree id f n))).0;
      })
      (λ r id l h. tree-true r7 r id (record { folder = h.0; links = h.1 }))
      (decides-all (ids_in a) (tree_allowed a t) Asked (λ id l. decides-tree id))
