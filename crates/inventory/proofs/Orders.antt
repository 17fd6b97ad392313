-- The list is in order: "in slot order, a folder's contents right after its own line", and it is as deep as the tree.
use mathlib.Core.Path.{◌≡◌, refl, sym, ap, ◌∙◌, subst}
use mathlib.Core.Bool.{Bool, true, false}
use mathlib.Core.List.{List, [], ◌∷◌, ◌++◌, append_assoc, append-nil}
use mathlib.Core.Logic.{⊎_elim}
use Prim.Native.Nat.{ℕ, zero, suc, ◌+◌, ◌-◌, ◌≤◌, ◌<◌}
use native.Mathlib.Omega.{arith}
use Rattle.base.specs.Search.{pick}
use Rattle.base.proofs.Bools.{bool_cases, true-false}
use Rattle.structs.specs.Types.{is_folder}
use Rattle.tree.specs.Tree.{Spelling, Tree, Tidy}
use Rattle.inventory.specs.Visits.{Visit, visit, join_to, slot_visits, visits_to, visits}
use Rattle.inventory.specs.Promises.{SlotOrder, end, other, folder, OneList}
use Rattle.inventory.proofs.Levels.{Level, top, level-lives, level-soon, level-down}

-- ---- lists one after another: the first outermost

join_to-first : {A : Type 0} (l : ℕ → List A) (n : ℕ) → join_to l (suc n) ≡ l 0 ++ join_to (λ j. l (suc j)) n
unfolding join_to
join_to-first l zero = sym (append-nil (l 0))
join_to-first l (suc n) = ap (λ x. x ++ l (suc n)) (join_to-first l n) ∙ append_assoc (l 0) (join_to (λ j. l (suc j)) n) (l (suc n))

join_to-cong : {A : Type 0} (l m : ℕ → List A) (n : ℕ) → ((j : ℕ) → j < n → l j ≡ m j) → join_to l n ≡ join_to m n
unfolding join_to
join_to-cong l m zero h = refl
join_to-cong l m (suc n) h = let e = join_to-cong l m n (λ j x. h j (omega arith)) in let f = h n (omega arith) in λ i. e i ++ f i

join_to-none : {A : Type 0} (l : ℕ → List A) → join_to l 0 ≡ []
unfolding join_to
join_to-none l = refl

pub visits-more : (v : Tree) (n f : ℕ) (p : List ℕ) → visits_to v (suc n) f p ≡ join_to (λ j. slot_visits v (visits_to v n) f p (2 + j)) (v.blocks f - 2)
unfolding visits_to
visits-more v n f p = refl

module _ (v : Tree) {style : Spelling} (I : Tidy style v) where
  abbrev dir : ℕ → ℕ → Bool
  dir f k = is_folder (v.kind (v.slot f k).id)

  -- the slots from k on, where what is below them is in order
  slots-order : (below : ℕ → List ℕ → List Visit) (f : ℕ) (p : List ℕ) (n k : ℕ) → k + n ≡ v.blocks f
      → ((i : ℕ) → k ≤ i → i < v.blocks f → dir f i ≡ true → SlotOrder v (v.slot f i).id (visit v f p i).path 2 (below (v.slot f i).id (visit v f p i).path))
      → SlotOrder v f p k (join_to (λ j. slot_visits v below f p (k + j)) n)
  slots-order below f p zero k e B = subst (SlotOrder v f p k) (sym (join_to-none (λ j. slot_visits v below f p (k + j)))) (end (omega arith))
  slots-order below f p (suc n) k e B =
      let rest = slots-order below f p n (suc k) (omega arith) (λ i x y d. B i (omega arith) y d) in
      let q : join_to (λ j. slot_visits v below f p (k + j)) (suc n) ≡ slot_visits v below f p k ++ join_to (λ j. slot_visits v below f p (suc k + j)) n
      = join_to-first (λ j. slot_visits v below f p (k + j)) n
      ∙ (λ x. slot_visits v below f p (zero_more x) ++ join_to-cong (λ j. slot_visits v below f p (k + suc j)) (λ j. slot_visits v below f p (suc k + j)) n (λ j h. ap (slot_visits v below f p) (let z : k + suc j ≡ suc k + j = omega arith in z)) x) in
      subst (SlotOrder v f p k) (sym q)
      (⊎_elim
      (λ (d : dir f k ≡ true).
      subst (λ (l : List Visit). SlotOrder v f p k (l ++ join_to (λ j. slot_visits v below f p (suc k + j)) n)) (sym (ap (λ (b : Bool). visit v f p k ∷ pick b (below (v.slot f k).id (visit v f p k).path) []) d))
      (folder (omega arith) d (B k (omega arith) (omega arith) d) rest))
      (λ (d : dir f k ≡ false).
      subst (λ (l : List Visit). SlotOrder v f p k (l ++ join_to (λ j. slot_visits v below f p (suc k + j)) n)) (sym (ap (λ (b : Bool). visit v f p k ∷ pick b (below (v.slot f k).id (visit v f p k).path) []) d))
      (other (omega arith) d rest))
      (bool_cases (dir f k)))
    where
      zero_more : k + 0 ≡ k
      zero_more = omega arith

  -- n levels are enough below level d, where d and n come to as many as there are ids
  visits-order : (n f d : ℕ) (p : List ℕ) → Level v f d → v.ids ≤ d + n → SlotOrder v f p 2 (visits_to v n f p)
  visits-order zero f d p L h = absurd (omega (arith, level-soon v I f d L, h))
  visits-order (suc n) f d p L h =
      subst (SlotOrder v f p 2) (sym (visits-more v n f p))
      (slots-order (visits_to v n) f p (v.blocks f - 2) 2 (omega (arith, (I.folder f (level-lives v I f d L).folder).blocks))
      (λ i x y g. visits-order n (v.slot f i).id (suc d) (visit v f p i).path (level-down v I f d i (v.slot f i).id L x y refl g) (omega (arith, h))))

  pub in_order : SlotOrder v 2 [] 2 (visits v)
  unfolding visits
  in_order = visits-order v.ids 2 0 [] top (omega arith)

-- ---- one list

pub one_list : OneList
unfolding OneList
one_list v f k p l m X Y = one v f k p l m X Y
  where
    one : (v : Tree) (f k : ℕ) (p : List ℕ) (l m : List Visit) → SlotOrder v f p k l → SlotOrder v f p k m → l ≡ m
    one v f k p l m (end x) (end y) = refl
    one v f k p l m (end x) (other y d Y) = absurd (omega (arith, x, y))
    one v f k p l m (end x) (folder y d M Y) = absurd (omega (arith, x, y))
    one v f k p l m (other x d X) (end y) = absurd (omega (arith, x, y))
    one v f k p l m (other x d X) (other y e Y) = let t = one v f (suc k) p _ _ X Y in λ i. visit v f p k ∷ t i
    one v f k p l m (other x d X) (folder y e M Y) = absurd (true-false e d)
    one v f k p l m (folder x d L X) (end y) = absurd (omega (arith, x, y))
    one v f k p l m (folder x d L X) (other y e Y) = absurd (true-false d e)
    one v f k p l m (folder x d L X) (folder y e M Y) =
        let h = one v (v.slot f k).id 2 (visit v f p k).path _ _ L M in
        let t = one v f (suc k) p _ _ X Y in
        λ i. visit v f p k ∷ (h i ++ t i)
