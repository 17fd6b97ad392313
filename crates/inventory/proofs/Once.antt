-- Each slot that is due stands in the list exactly once. A slot of folder x is met from folder f once where x is f or lies below it: of the slots of
-- f, one at the most leads there, since a folder is named once.
use mathlib.Core.Path.{◌≡◌, refl, sym, ap, ◌∙◌, subst}
use mathlib.Core.Bool.{Bool, true, false, ◌&&◌}
use mathlib.Core.List.{List, [], ◌∷◌, ◌++◌}
use mathlib.Core.Logic.{◌≢◌, ⊎_elim}
use Prim.Native.Nat.{ℕ, zero, suc, ◌+◌, ◌-◌, ◌≤◌, ◌<◌}
use native.Mathlib.Omega.{arith}
use lib.Dec.{eqb, leb}
use borrow.Author.Tests.{eq-eqb, ne_eqb, eqb-true, le-leb, lt-leb}
use Rattle.base.specs.Count.{bit, sum_to, count_to, ind}
use Rattle.base.specs.Search.{pick, lowest}
use Rattle.base.proofs.Bools.{bool_cases, same_bool, and_parts, true-false}
use Rattle.base.proofs.Counts.{sum_to-cong, sum_to-add, sum_to-zero, sum_to-ind}
use Rattle.base.proofs.Finds.{eq-cases}
use Rattle.base.proofs.Numbers.{lt-or-le}
use Rattle.base.proofs.Sames.{test-fails}
use Rattle.base.proofs.Searches.{count_to-found, lowest-hit}
use Rattle.structs.specs.Types.{is_folder}
use Rattle.tree.specs.Tree.{Spelling, Tree, folder_at, names_of, parent, up, Lives, Tidy}
use Rattle.tree.proofs.Trees.{lives-linked}
use Rattle.tree.proofs.Ways.{slot_counts, names-part, one_parent, lives-up}
use Rattle.inventory.specs.Visits.{Visit, visit, join_to, slot_visits, visits_to, visits}
use Rattle.inventory.specs.Promises.{times, ReachedBy, root, down, Due}
use Rattle.inventory.proofs.Levels.{Level, top, up_start, up_more, level-up, level-least, level-one, level-lives, level-soon, level-down}
use Rattle.inventory.proofs.Orders.{visits-more}

-- ---- numbers

ind-shift : (y j : ℕ) → 2 ≤ y → bit (eqb (2 + j) y) ≡ ind (y - 2) j
unfolding ind
ind-shift y j l =
    ap bit
    (same_bool (eqb (2 + j) y) (eqb (y - 2) j)
    (λ e. let h = eqb-true (2 + j) y e in eq-eqb (y - 2) j (omega (arith, h)))
    (λ e. let h = eqb-true (y - 2) j e in eq-eqb (2 + j) y (omega (arith, h, l))))

names-sum : (v : Tree) (f c : ℕ) → sum_to (λ j. bit (eqb (v.slot f (2 + j)).id c)) (v.blocks f - 2) ≡ names_of v f c
unfolding names_of count_to
names-sum v f c = refl

-- where a folder's slots name c, there is one that does
pub named-at : (v : Tree) (f c : ℕ) → 1 ≤ names_of v f c → (k : ℕ) × (2 ≤ k) × (k < v.blocks f) × ((v.slot f k).id ≡ c)
unfolding names_of
named-at v f c h =
    let p : ℕ → Bool = λ j. eqb (v.slot f (2 + j)).id c in
    let l = count_to-found p (v.blocks f - 2) h in
    (2 + lowest p (v.blocks f - 2), omega arith, omega (arith, l), eqb-true _ c (lowest-hit p (v.blocks f - 2) l))

-- ---- counting in lists one after another

times-append : (f k : ℕ) (l m : List Visit) → times f k (l ++ m) ≡ times f k l + times f k m
unfolding times
times-append f k [] m = let e : times f k m ≡ 0 + times f k m = omega arith in e
times-append f k (x ∷ l) m = let h = times-append f k l m in omega (arith, h)

times_none : (f k : ℕ) → times f k [] ≡ 0
unfolding times
times_none f k = refl

times-join : (f k : ℕ) (l : ℕ → List Visit) (n : ℕ) → times f k (join_to l n) ≡ sum_to (λ j. times f k (l j)) n
unfolding join_to sum_to times
times-join f k l zero = refl
times-join f k l (suc n) = let h = times-join f k l n in let g = times-append f k (join_to l n) (l n) in omega (arith, h, g)

times-slot : (v : Tree) (below : ℕ → List ℕ → List Visit) (f : ℕ) (p : List ℕ) (i x y : ℕ)
    → times x y (slot_visits v below f p i) ≡ bit (eqb f x && eqb i y) + times x y (pick (is_folder (v.kind (v.slot f i).id)) (below (v.slot f i).id (visit v f p i).path) [])
unfolding times
times-slot v below f p i x y = refl

module _ (v : Tree) {style : Spelling} (I : Tidy style v) where
  -- of the slots of folder f, one names folder c where f is its parent, and none else
  names-one : (f c : ℕ) → folder_at v f ≡ true → Lives v c → c ≢ 2 → names_of v f c ≡ bit (eqb f (parent v c))
  names-one f c F l n =
      ⊎_elim
      (λ (e : f ≡ parent v c).
      let N = I.names c l n in
      let s = subst (λ (i : ℕ). 1 ≤ names_of v i c) (sym e) (slot_counts v (parent v c) N.at c N.later N.inside N.is) in
      let m = names-part v I c f F in
      let o = (lives-linked v I c l).once n in
      let b : bit (eqb f (parent v c)) ≡ 1 = ap bit (eq-eqb f (parent v c) e) in
      omega (arith, s, m, o, b))
      (λ g.
      let b : bit (eqb f (parent v c)) ≡ 0 = ap bit (ne_eqb f (parent v c) g) in
      ⊎_elim (λ (h : names_of v f c < 1). omega (arith, h, b)) (λ (h : 1 ≤ names_of v f c). absurd (g (found h))) (lt-or-le (names_of v f c) 1))
      (eq-cases f (parent v c))
    where
      found : 1 ≤ names_of v f c → f ≡ parent v c
      found h = let w = named-at v f c h in (one_parent v I c l f w.0 F w.1 w.2 w.3).1

  module _ (x y e : ℕ) (X : Level v x e) (later : 2 ≤ y) (inside : y < v.blocks x) where
    -- x is folder f of level d, or lies below it
    abbrev under : ℕ → ℕ → Bool
    under d f = leb d e && eqb f (up v x (e - d))

    under-not : (d f : ℕ) → e < d → bit (under d f) ≡ 0
    under-not d f l = ap (λ (b : Bool). bit (b && eqb f (up v x (e - d)))) (lt-leb d e l)

    under-is : (d f : ℕ) → d ≤ e → bit (under d f) ≡ bit (eqb f (up v x (e - d)))
    under-is d f l = ap (λ (b : Bool). bit (b && eqb f (up v x (e - d)))) (le-leb d e l)

    -- the lines of f itself
    abbrev own : ℕ → ℕ → ℕ
    own f j = bit (eqb f x && eqb (2 + j) y)

    own-else : (f n : ℕ) → f ≢ x → sum_to (own f) n ≡ 0
    own-else f n d = sum_to-cong (own f) (λ j. 0) n (λ j l. ap (λ (b : Bool). bit (b && eqb (2 + j) y)) (ne_eqb f x d)) ∙ sum_to-zero n

    own-here : (f : ℕ) → f ≡ x → sum_to (own f) (v.blocks f - 2) ≡ 1
    own-here f h =
        sum_to-cong (own f) (λ j. ind (y - 2) j) (v.blocks f - 2) (λ j l. ap (λ (b : Bool). bit (b && eqb (2 + j) y)) (eq-eqb f x h) ∙ as-ind j)
        ∙ sum_to-ind (v.blocks f - 2) (y - 2) (let g = ap v.blocks h in omega (arith, g, later, inside))
      where
        as-ind : (j : ℕ) → bit (eqb (2 + j) y) ≡ ind (y - 2) j
        as-ind j = ind-shift y j later

    -- what its slots lead to
    abbrev led : ℕ → ℕ → ℕ → ℕ
    led d f j = bit (under (suc d) (v.slot f (2 + j)).id)

    led-not : (d f n : ℕ) → e ≤ d → sum_to (led d f) n ≡ 0
    led-not d f n l = sum_to-cong (led d f) (λ j. 0) n (λ j h. under-not (suc d) (v.slot f (2 + j)).id (omega arith)) ∙ sum_to-zero n

    abbrev anc : ℕ → ℕ
    anc d = up v x (e - suc d)

    anc-lives : (d : ℕ) → Lives v (anc d)
    anc-lives d = lives-up v I x (level-lives v I x e X) (e - suc d)

    anc-below : (d : ℕ) → d < e → anc d ≢ 2
    anc-below d l z = let h = level-least v x e (e - suc d) X z in omega (arith, h, l)

    anc-parent : (d : ℕ) → d < e → up v x (e - d) ≡ parent v (anc d)
    anc-parent d l = ap (up v x) (let z : e - d ≡ suc (e - suc d) = omega arith in z) ∙ up_more v x (e - suc d)

    led-one : (d f : ℕ) → d < e → folder_at v f ≡ true → sum_to (led d f) (v.blocks f - 2) ≡ bit (eqb f (up v x (e - d)))
    led-one d f l F =
        sum_to-cong (led d f) (λ j. bit (eqb (v.slot f (2 + j)).id (anc d))) (v.blocks f - 2) (λ j h. under-is (suc d) (v.slot f (2 + j)).id l)
        ∙ names-sum v f (anc d)
        ∙ names-one f (anc d) F (anc-lives d) (anc-below d l)
        ∙ ap (λ (i : ℕ). bit (eqb f i)) (sym (anc-parent d l))

    total : (f d : ℕ) → Level v f d → sum_to (own f) (v.blocks f - 2) + sum_to (led d f) (v.blocks f - 2) ≡ bit (under d f)
    total f d L =
        ⊎_elim
        (λ (l : d < e).
        let n = own-else f (v.blocks f - 2) (λ z. omega (arith, l, level-one v x d e (subst (λ (i : ℕ). Level v i d) z L) X)) in
        let m = led-one d f l (level-lives v I f d L).folder in
        let u = under-is d f (omega arith) in
        omega (arith, n, m, u))
        (λ (l : e ≤ d).
        let m = led-not d f (v.blocks f - 2) l in
        ⊎_elim
        (λ (z : f ≡ x).
        let q : d ≡ e = level-one v x d e (subst (λ (i : ℕ). Level v i d) z L) X in
        let n = own-here f z in
        let u = under-is d f (omega (arith, q)) in
        let w : bit (eqb f (up v x (e - d))) ≡ 1 = ap bit (eq-eqb f (up v x (e - d)) (z ∙ sym (up-here d q))) in
        omega (arith, n, m, u, w))
        (λ z.
        let n = own-else f (v.blocks f - 2) z in
        ⊎_elim
        (λ (g : e < d). let u = under-not d f g in omega (arith, n, m, u))
        (λ (g : d ≤ e).
        let q : d ≡ e = omega (arith, l, g) in
        let u = under-is d f g in
        let w : bit (eqb f (up v x (e - d))) ≡ 0 = ap bit (ne_eqb f (up v x (e - d)) (λ h. z (h ∙ up-here d q))) in
        omega (arith, n, m, u, w))
        (lt-or-le e d))
        (eq-cases f x))
        (lt-or-le d e)
      where
        up-here : (d : ℕ) → d ≡ e → up v x (e - d) ≡ x
        up-here d q = ap (up v x) (let z : e - d ≡ 0 = omega (arith, q) in z) ∙ up_start v x

    -- a slot that names no folder leads nowhere
    led-file : (d f i : ℕ) → is_folder (v.kind (v.slot f i).id) ≡ false → bit (under (suc d) (v.slot f i).id) ≡ 0
    led-file d f i n =
        ap bit (test-fails (under (suc d) (v.slot f i).id) (λ h.
        let q = eqb-true (v.slot f i).id (anc d) (and_parts (leb (suc d) e) (eqb (v.slot f i).id (anc d)) h).1 in
        let g = (and_parts (v.node (anc d)) (is_folder (v.kind (anc d))) (anc-lives d).folder).1 in
        true-false (ap (λ (c : ℕ). is_folder (v.kind c)) q ∙ g) n))

    times-visits : (n f d : ℕ) (p : List ℕ) → Level v f d → v.ids ≤ d + n → times x y (visits_to v n f p) ≡ bit (under d f)
    times-visits zero f d p L h = absurd (omega (arith, level-soon v I f d L, h))
    times-visits (suc n) f d p L h =
        ap (times x y) (visits-more v n f p)
        ∙ times-join x y (λ j. slot_visits v (visits_to v n) f p (2 + j)) (v.blocks f - 2)
        ∙ sum_to-cong (λ j. times x y (slot_visits v (visits_to v n) f p (2 + j))) (λ j. own f j + led d f j) (v.blocks f - 2)
        (λ j l. times-slot v (visits_to v n) f p (2 + j) x y ∙ ap (λ (t : ℕ). own f j + t)
        (⊎_elim
        (λ (g : is_folder (v.kind (v.slot f (2 + j)).id) ≡ true).
        let c : ℕ = (v.slot f (2 + j)).id in
        ap (λ (b : Bool). times x y (pick b (visits_to v n (v.slot f (2 + j)).id (visit v f p (2 + j)).path) [])) g
        ∙ times-visits n (v.slot f (2 + j)).id (suc d) (visit v f p (2 + j)).path (level-down v I f d (2 + j) (v.slot f (2 + j)).id L (omega arith) (omega arith) refl g) (omega (arith, h)))
        (λ (g : is_folder (v.kind (v.slot f (2 + j)).id) ≡ false).
        ap (λ (b : Bool). times x y (pick b (visits_to v n (v.slot f (2 + j)).id (visit v f p (2 + j)).path) [])) g ∙ times_none x y ∙ sym (led-file d f (2 + j) g))
        (bool_cases (is_folder (v.kind (v.slot f (2 + j)).id)))))
        ∙ sum_to-add (own f) (led d f) (v.blocks f - 2)
        ∙ total f d L

    times-once : times x y (visits v) ≡ 1
    unfolding visits
    times-once =
        times-visits v.ids 2 0 [] top (omega arith)
        ∙ under-is 0 2 (omega arith)
        ∙ ap bit (eq-eqb 2 (up v x (e - 0)) (sym (ap (up v x) (let z : e - 0 ≡ e = omega arith in z) ∙ level-up v x e X)))

  -- a folder that is reached has a level
  pub reached-level : (f : ℕ) (p : List ℕ) → ReachedBy v f p → (d : ℕ) × Level v f d
  reached-level f p root = (0, top)
  reached-level f p (down {f = g} {p = q} k R x y e t h) = let L = reached-level g q R in (suc L.0, level-down v I g L.0 k f L.1 x y e t)

  pub due-once : (x : Visit) → Due v x → times x.folder x.slot (visits v) ≡ 1
  due-once x D = let L = reached-level x.folder D.at D.reached in times-once x.folder x.slot L.0 L.1 D.later D.inside
