-- The list, one line at a time.
use mathlib.Core.Path.{◌≡◌, refl, sym, ap, ◌∙◌, subst}
use mathlib.Core.Bool.{Bool, true, false}
use mathlib.Core.List.{List, [], ◌∷◌, ◌++◌, append_assoc}
use mathlib.Core.Logic.{◌≢◌, ⊎_elim}
use Prim.Native.Nat.{ℕ, suc, ◌+◌, ◌-◌, ◌≤◌, ◌<◌}
use native.Mathlib.Omega.{arith}
use lib.Dec.{eqb}
use borrow.Author.Tests.{eq-eqb}
use Rattle.base.specs.Count.{bit, count_to}
use Rattle.base.proofs.Bools.{true-false}
use Rattle.base.proofs.Finds.{count_to-some, count_to-suc, count_to-first}
use Rattle.base.proofs.Numbers.{lt-or-le}
use Rattle.structs.specs.Types.{is_folder}
use Rattle.tree.specs.Tree.{Tree, any, folder_at, names_of, Lives, Tidy}
use Rattle.tree.proofs.Trees.{lives-linked}
use Rattle.tree.proofs.Ways.{names-part, one_parent}
use Rattle.inventory.specs.Visits.{Visit, visit}
use Rattle.inventory.specs.Promises.{SlotOrder, end, other, folder}
use Rattle.inventory.specs.Steps.{ToCome, outer, inner, Starts, GoesOn, Enters, GoesUp, Ends}
use Rattle.inventory.proofs.Levels.{Level, top, level-lives, level-down}
use Rattle.inventory.proofs.Orders.{in_order}

pub starts : Starts
unfolding Starts
starts v I = outer (in_order v I)

-- ---- a folder's own slots

order_other : (v : Tree) (f k : ℕ) (p : List ℕ) (l : List Visit) → SlotOrder v f p k l → k < v.blocks f → is_folder (v.kind (v.slot f k).id) ≡ false
    → (m : List Visit) × (l ≡ visit v f p k ∷ m) × SlotOrder v f p (suc k) m
order_other v f k p l (end x) h n = absurd (omega (arith, x, h))
order_other v f k p l (other {l = m} x d X) h n = (m, refl, X)
order_other v f k p l (folder x d M X) h n = absurd (true-false d n)

-- a folder's contents, and the slots after it
record Into (v : Tree) (f k : ℕ) (p : List ℕ) (l : List Visit) : Type 0 where
  inside : List Visit
  after : List Visit
  is : l ≡ visit v f p k ∷ (inside ++ after)
  below : SlotOrder v (v.slot f k).id (visit v f p k).path 2 inside
  then : SlotOrder v f p (suc k) after

order-folder : (v : Tree) (f k : ℕ) (p : List ℕ) (l : List Visit) → SlotOrder v f p k l → k < v.blocks f → is_folder (v.kind (v.slot f k).id) ≡ true → Into v f k p l
order-folder v f k p l (end x) h n = absurd (omega (arith, x, h))
order-folder v f k p l (other x d X) h n = absurd (true-false n d)
order-folder v f k p l (folder {m = m} {l = r} x d M X) h n = record { inside = m; after = r; is = refl; below = M; then = X }

order-past : (v : Tree) (f k : ℕ) (p : List ℕ) (l : List Visit) → SlotOrder v f p k l → v.blocks f ≤ k → l ≡ []
order-past v f k p l (end x) h = refl
order-past v f k p l (other x d X) h = absurd (omega (arith, x, h))
order-past v f k p l (folder x d M X) h = absurd (omega (arith, x, h))

-- ---- the steps

pub goes_on : GoesOn
unfolding GoesOn
goes_on v f k p l (outer X) h n = let s = order_other v 2 k [] l X h n in (s.0, s.1, outer s.2)
goes_on v f k p l (inner {m = m} {l = r} X a b c t e R) h n =
    let s = order_other v f k p m X h n in
    (s.0 ++ r, ap (λ (x : List Visit). x ++ r) s.1, inner s.2 a b c t e R)

pub enters : Enters
unfolding Enters
enters v f k p l (outer X) g h n =
    let s = order-folder v 2 k [] l X h n in
    (s.inside ++ s.after, s.is, inner s.below g h refl n refl (outer s.then))
enters v f k p l (inner {m = m} {l = r} X a b c t e R) g h n =
    let s = order-folder v f k p m X h n in (
      s.inside ++ (s.after ++ r),
      ap (λ (x : List Visit). x ++ r) s.is ∙ ap (λ (x : List Visit). visit v f p k ∷ x) (append_assoc s.inside s.after r),
      inner s.below g h refl n refl (inner s.then a b c t e R),
    )

-- ---- in a tidy tree

-- the folder where the loop stands lies below root
come-level : (v : Tree) (f k : ℕ) (p : List ℕ) (l : List Visit) → Tidy any v → ToCome v f k p l → (d : ℕ) × Level v f d
come-level v f k p l I (outer X) = (0, top)
come-level v f k p l I (inner {g = g} {i = i} {q = q} {l = r} X a b c t e R) = let L = come-level v g (suc i) q r I R in (suc L.0, level-down v I g L.0 i f L.1 a b c t)

-- and has links
pub come-lives : (v : Tree) (f k : ℕ) (p : List ℕ) (l : List Visit) → Tidy any v → ToCome v f k p l → Lives v f
come-lives v f k p l I R = let L = come-level v f k p l I R in level-lives v I f L.0 L.1

-- two numbers that pass count two
count-two : (p : ℕ → Bool) (n i j : ℕ) → i < j → j < n → p i ≡ true → p j ≡ true → 2 ≤ count_to p n
count-two p n i j l h x y =
    let a = count_to-some p (suc i) i (omega arith) x in
    let b = count_to-first p (suc i) j (omega arith) in
    let c = count_to-suc p j in
    let e = count_to-first p (suc j) n (omega arith) in
    let w : bit (p j) ≡ 1 = ap bit y in
    omega (arith, a, b, c, e, w)

-- one slot of a folder at the most names a folder with links
name-once : (v : Tree) (I : Tidy any v) (g f i j : ℕ) → folder_at v g ≡ true → Lives v f → f ≢ 2 → 2 ≤ i → j < v.blocks g → (v.slot g i).id ≡ f → (v.slot g j).id ≡ f → i < j → ⊥
unfolding names_of
name-once v I g f i j G l z a b x y h =
    let p : ℕ → Bool = λ k. eqb (v.slot g (2 + k)).id f in
    let s : (k : ℕ) → 2 ≤ k → (v.slot g k).id ≡ f → p (k - 2) ≡ true =
    λ k m e. eq-eqb (v.slot g (2 + (k - 2))).id f (ap (λ (n : ℕ). (v.slot g n).id) (let q : 2 + (k - 2) ≡ k = omega arith in q) ∙ e) in
    let c = count-two p (v.blocks g - 2) (i - 2) (j - 2) (omega arith) (omega arith) (s i a x) (s j (omega arith) y) in
    omega (arith, c, names-part v I f g G, (lives-linked v I f l).once z)

pub goes-up : GoesUp
unfolding GoesUp
goes-up v f k p l I (outer X) h z = absurd (z refl)
goes-up v f k p l I (inner {g = g} {i = i} {q = q} {m = m} {l = r} X a b c t e R) h z =
    let G = (come-lives v g (suc i) q r I R).folder in
    let M = come-lives v f k p (m ++ r) I (inner X a b c t e R) in
    record {
      above = g;
      is = (one_parent v I f M g i G a b c).1;
      at = i;
      later = a;
      inside = b;
      names = c;
      only = λ j x y w. ⊎_elim (λ s. absurd (name-once v I g f j i G M z x b w c s)) (λ s. ⊎_elim (λ n. absurd (name-once v I g f i j G M z a y c w n)) (λ n. let o : j ≡ i = omega (arith, s, n) in o) (lt-or-le i j)) (lt-or-le j i);
      short = q;
      path = e;
      rest = subst (ToCome v g (suc i) q) (sym (ap (λ (x : List Visit). x ++ r) (order-past v f k p m X h))) R;
    }

pub ends : Ends
unfolding Ends
ends v k p l I (outer X) h = order-past v 2 k [] l X h
ends v k p l I (inner {g = g} {i = i} {q = q} {l = r} X a b c t e R) h = absurd ((one_parent v I 2 I.two g i (come-lives v g (suc i) q r I R).folder a b c).0 refl)
