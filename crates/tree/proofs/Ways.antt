-- Who names a node, and the way up: a folder with links is named by its parent alone, and the way from it to node 2 meets no folder twice, so it
-- has fewer steps than there are ids.
use mathlib.Core.Path.{◌≡◌, refl, sym, ap, ◌∙◌}
use mathlib.Core.Bool.{Bool, true}
use mathlib.Core.Logic.{◌≢◌, ⊎_elim}
use Prim.Native.Nat.{ℕ, zero, suc, ◌+◌, ◌-◌, ◌≤◌, ◌<◌}
use native.Mathlib.Nat.{add-zero, add-suc}
use native.Mathlib.Omega.{arith}
use lib.Dec.{eqb}
use borrow.Author.Tests.{eq-eqb, eqb-true, eqb-false}
use Rattle.base.specs.Search.{pick, lowest}
use Rattle.base.proofs.Counts.{sum_to-part, sum_to-change, pigeon}
use Rattle.base.proofs.Finds.{eq-cases, count_to-some}
use Rattle.base.proofs.Numbers.{lt-or-le}
use Rattle.base.proofs.Searches.{lowest-first, lowest-hit, lowest-at-most}
use Rattle.tree.specs.Tree.{Spelling, Tree, folder_at, names_of, all_names, parent, up, LinkedIn, RemovedIn, Lives, Tidy}
use Rattle.tree.proofs.Trees.{at, at_here, at-else, folder-is, lives-linked, parent-lives}

-- a later slot that names x counts
pub slot_counts : (v : Tree) (d k x : ℕ) → 2 ≤ k → k < v.blocks d → (v.slot d k).id ≡ x → 1 ≤ names_of v d x
unfolding names_of
slot_counts v d k x l m e =
    let s : 2 + (k - 2) ≡ k = omega arith in
    let q : eqb (v.slot d (2 + (k - 2))).id x ≡ true = eq-eqb (v.slot d (2 + (k - 2))).id x (ap (λ (j : ℕ). (v.slot d j).id) s ∙ e) in
    count_to-some (λ j. eqb (v.slot d (2 + j)).id x) (v.blocks d - 2) (k - 2) (omega arith) q

module _ (v : Tree) {style : Spelling} (I : Tidy style v) where
  abbrev part : ℕ → ℕ → ℕ
  part x d = pick (folder_at v d) (names_of v d x) 0

  part-is : (x d : ℕ) → folder_at v d ≡ true → part x d ≡ names_of v d x
  part-is x d f = ap (λ (b : Bool). pick b (names_of v d x) 0) f

  pub names-part : (x d : ℕ) → folder_at v d ≡ true → names_of v d x ≤ all_names v x
  unfolding all_names
  names-part x d f = omega (arith, sum_to-part (part x) v.ids d (I.below d (folder-is v d f)), part-is x d f)

  names-two : (x d e : ℕ) → folder_at v d ≡ true → folder_at v e ≡ true → d ≢ e → names_of v d x + names_of v e x ≤ all_names v x
  unfolding all_names
  names-two x d e f g n =
      let c = sum_to-change (part x) (at d 0 (part x)) v.ids d (I.below d (folder-is v d f)) (λ i m. sym (at-else d 0 (part x) i m)) in
      let p = sum_to-part (at d 0 (part x)) v.ids e (I.below e (folder-is v e g)) in
      omega (arith, c, p, at_here d 0 (part x), at-else d 0 (part x) e (λ z. n (sym z)), part-is x d f, part-is x e g)

  -- who names a folder with links is its parent
  pub one_parent : (i : ℕ) → Lives v i → (d k : ℕ) → folder_at v d ≡ true → 2 ≤ k → k < v.blocks d → (v.slot d k).id ≡ i → (i ≢ 2) × (d ≡ parent v i)
  one_parent i l d k f x y e =
      let L = lives-linked v I i l in
      let s = slot_counts v d k i x y e in
      let n : i ≢ 2 = λ z. omega (arith, L.root z, s, names-part i d f) in
      let N = I.names i l n in
      (n, ⊎_elim (λ z. z) (λ m. absurd (omega (arith, L.once n, s, slot_counts v (parent v i) N.at i N.later N.inside N.is, names-two i d (parent v i) f (I.parents i l n) m))) (eq-cases d (parent v i)))

  -- node 2 is the end of the way
  pub up-stays : (i : ℕ) → parent v i ≡ i → (n : ℕ) → up v i n ≡ i
  unfolding up
  up-stays i e zero = refl
  up-stays i e (suc n) = ap (parent v) (up-stays i e n) ∙ e

  -- only node 2 is its own parent
  pub not_own : (i : ℕ) → Lives v i → i ≢ 2 → parent v i ≢ i
  not_own i l n e = let c = I.climbs i l in n (sym (up-stays i e c.0) ∙ c.1)

  -- no folder names itself
  pub not_itself : (d k : ℕ) → folder_at v d ≡ true → 2 ≤ k → k < v.blocks d → (v.slot d k).id ≢ d
  not_itself d k f x y e =
      let s = slot_counts v d k d x y e in
      let l : Lives v d = record {
        folder = f;
        links = λ z. ⊎_elim (λ (L : LinkedIn v d). omega (arith, L.links)) (λ (L : RemovedIn v d). omega (arith, L.unnamed, s, names-part d d f)) (I.either d f);
      } in
      let o = one_parent d l d k f x y e in
      not_own d l o.0 (sym o.1)

  up_suc : (i n : ℕ) → up v i (suc n) ≡ parent v (up v i n)
  unfolding up
  up_suc i n = refl

  pub lives-up : (i : ℕ) → Lives v i → (n : ℕ) → Lives v (up v i n)
  unfolding up
  lives-up i l zero = l
  lives-up i l (suc n) = parent-lives v I (up v i n) (lives-up i l n)

  -- two ways that meet go on as one
  up-meet : (i j k n : ℕ) → up v i j ≡ up v i k → up v i (j + n) ≡ up v i (k + n)
  up-meet i j k zero e = rw (add-zero j, add-zero k) e
  up-meet i j k (suc n) e = rw (add-suc j n, add-suc k n) (up_suc i (j + n) ∙ ap (parent v) (up-meet i j k n e) ∙ sym (up_suc i (k + n)))

  module _ (i : ℕ) (l : Lives v i) where
    -- n is the least number of steps to node 2
    module _ (n : ℕ) (there : up v i n ≡ 2) (before : (m : ℕ) → m < n → up v i m ≢ 2) where
      short : (j k : ℕ) → j < k → k ≤ n → up v i j ≡ up v i k → ⊥
      short j k x y e = before (j + (n - k)) (omega arith) (up-meet i j k (n - k) e ∙ ap (up v i) (let q : k + (n - k) ≡ n = omega arith in q) ∙ there)

      -- no folder is met twice on the way
      pub up_apart : (j k : ℕ) → j < suc n → k < suc n → up v i j ≡ up v i k → j ≡ k
      up_apart j k x y e =
          ⊎_elim
          (λ z. absurd (short j k z (omega arith) e))
          (λ g. ⊎_elim (λ z. absurd (short k j z (omega arith) (sym e))) (λ h. let q : j ≡ k = omega arith in q) (lt-or-le k j))
          (lt-or-le j k)

      soon : n < v.ids
      soon = pigeon (suc n) v.ids (up v i) (λ j x. I.below (up v i j) (folder-is v (up v i j) (lives-up i l j).folder)) up_apart

    pub climbs-least : (n : ℕ) × (up v i n ≡ 2) × ((m : ℕ) → m < n → up v i m ≢ 2)
    climbs-least =
        let p : ℕ → Bool = λ n. eqb (up v i n) 2 in
        let w = I.climbs i l in
        let g = lowest-at-most p (suc w.0) w.0 (omega arith) (eq-eqb _ 2 w.1) in
        let n : ℕ = lowest p (suc w.0) in
        let e : p n ≡ true = lowest-hit p (suc w.0) (omega arith) in
        (n, eqb-true _ 2 e, λ m h. eqb-false _ 2 ((lowest-first p (suc w.0)).before m h))

    pub climbs-soon : (n : ℕ) × (n < v.ids) × (up v i n ≡ 2)
    climbs-soon = let w = climbs-least in (w.0, soon w.0 w.1 w.2, w.1)
