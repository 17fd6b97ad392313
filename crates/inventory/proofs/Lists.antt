-- Where no stored name has a slash, a text has one list: a folder's contents end where a path does not go on from its own.
use mathlib.Core.Path.{◌≡◌, refl, sym, ap, ◌∙◌, subst}
use mathlib.Core.List.{List, [], ◌∷◌, ◌++◌, append_assoc, nil≢cons, head-eq_of_cons-eq, tail-eq_of_cons-eq}
use Prim.Native.Nat.{ℕ, suc, ◌≤◌}
use native.Mathlib.Omega.{arith}
use Rattle.base.proofs.Bools.{true-false}
use Rattle.structs.specs.Types.{is_folder}
use Rattle.utf8.specs.Names.{name_of, NoSlash}
use Rattle.table.specs.Table.{empty_table}
use Rattle.rules.proofs.Check.{check-pass}
use Rattle.tree.specs.Tree.{Tree, slashless, Tidy}
use Rattle.image.proofs.Images.{fair-spelt}
use Rattle.inventory.specs.Text.{escape, path_to}
use Rattle.inventory.specs.Visits.{Visit, visit, visits}
use Rattle.inventory.specs.Inventory.{stored_tree}
use Rattle.inventory.specs.Promises.{ReachedBy, root, down, SlotOrder, end, other, folder, Item, item_of, items_of, Texts, Lists}
use Rattle.inventory.proofs.Escapes.{Without, escape-without, has-mark}
use Rattle.inventory.proofs.Orders.{in_order}
use Rattle.inventory.proofs.Paths.{path-parts, name_free, reached-folder}
use Rattle.inventory.proofs.Readings.{texts}

-- ---- where a folder's contents end

-- nothing, or a line whose path does not go on from p
data Outside (p : List ℕ) : List Item → Type 0 where
  over : Outside p []
  next : {x : Item} {l : List Item} → ((s : List ℕ) → x.path ≡ p ++ (47 ∷ s) → ⊥) → Outside p (x ∷ l)

outside-head : (p s : List ℕ) (x : Item) (X l : List Item) → Outside p X → x.path ≡ p ++ (47 ∷ s) → X ≡ x ∷ l → ⊥
outside-head p s x X l over h e = nil≢cons e
outside-head p s x X l (next n) h e = n s (ap (λ (y : Item). y.path) (head-eq_of_cons-eq e) ∙ h)

outside-down : (p t : List ℕ) (X : List Item) → Outside p X → Outside (p ++ (47 ∷ t)) X
outside-down p t X over = over
outside-down p t X (next n) = next (λ s h. n (t ++ (47 ∷ s)) (h ∙ append_assoc p (47 ∷ t) (47 ∷ s)))

cancel : (p x y : List ℕ) → p ++ x ≡ p ++ y → x ≡ y
cancel [] x y e = e
cancel (c ∷ p) x y e = cancel p x y (tail-eq_of_cons-eq e)

-- a name without a slash does not go on from another
not-below : (p n m s : List ℕ) → NoSlash n → path_to p n ≡ path_to p m ++ (47 ∷ s) → ⊥
unfolding path_to
not-below p n m s F e =
    let q : escape n ≡ escape m ++ (47 ∷ s) = tail-eq_of_cons-eq (cancel p (47 ∷ escape n) (47 ∷ (escape m ++ (47 ∷ s))) (e ∙ append_assoc p (47 ∷ escape m) (47 ∷ s))) in
    has-mark 47 (escape m) s (subst (Without 47) q (escape-without n F))

items-append : (v : Tree) (l m : List Visit) (X : List Item) → items_of v (l ++ m) ++ X ≡ items_of v l ++ (items_of v m ++ X)
items-append v [] m X = refl
items-append v (x ∷ l) m X = ap (λ (t : List Item). item_of v x ∷ t) (items-append v l m X)

-- what comes after the contents of a folder with path `path_to p n`: the next slots of the folder above, and what comes after those
after : (v : Tree) → Tidy slashless v → (f k : ℕ) (p n : List ℕ) (l : List Visit) (X : List Item) → ReachedBy v f p → 2 ≤ k → SlotOrder v f p k l → Outside p X
    → Outside (path_to p n) (items_of v l ++ X)
after v I f k p n l X R h (end x) O = subst (λ (q : List ℕ). Outside q X) (sym (path-parts p n)) (outside-down p (escape n) X O)
after v I f k p n l X R h (other x d L) O = next (λ s e. not-below p (name_of (v.slot f k).name) n s (name_free v I f k (reached-folder v I f p R) h x) e)
after v I f k p n l X R h (folder x d M L) O = next (λ s e. not-below p (name_of (v.slot f k).name) n s (name_free v I f k (reached-folder v I f p R) h x) e)

-- ---- two trees of one text

-- a slot's line goes on from its folder's path
begins : (w : Tree) (g k : ℕ) (p q : List ℕ) (X l : List Item) → p ≡ q → Outside p X → X ≡ item_of w (visit w g q k) ∷ l → ⊥
begins w g k p q X l b O e =
    let n : List ℕ = name_of (w.slot g k).name in
    outside-head p (escape n) (item_of w (visit w g q k)) X l O (path-parts q n ∙ ap (λ (t : List ℕ). t ++ (47 ∷ escape n)) (sym b)) e

module _ (v w : Tree) (I : Tidy slashless v) (J : Tidy slashless w) where
  one : (f g k : ℕ) (p q : List ℕ) (l m : List Visit) (X Y : List Item) → f ≡ g → p ≡ q → 2 ≤ k → ReachedBy v f p → ReachedBy w g q → Outside p X → Outside q Y
      → SlotOrder v f p k l → SlotOrder w g q k m → items_of v l ++ X ≡ items_of w m ++ Y → (l ≡ m) × (X ≡ Y)
  one f g k p q l m X Y a b h R S O U (end x) (end y) e = (refl, e)
  one f g k p q l m X Y a b h R S O U (end x) (other y d M) e = absurd (begins w g k p q X _ b O e)
  one f g k p q l m X Y a b h R S O U (end x) (folder y d N M) e = absurd (begins w g k p q X _ b O e)
  one f g k p q l m X Y a b h R S O U (other x d L) (end y) e = absurd (begins v f k q p Y _ (sym b) U (sym e))
  one f g k p q l m X Y a b h R S O U (folder x d N L) (end y) e = absurd (begins v f k q p Y _ (sym b) U (sym e))
  one f g k p q l m X Y a b h R S O U (other x d L) (folder y c N M) e = absurd (true-false c (sym (ap (λ (z : Item). is_folder z.kind) (head-eq_of_cons-eq e)) ∙ d))
  one f g k p q l m X Y a b h R S O U (folder x d N L) (other y c M) e = absurd (true-false d (ap (λ (z : Item). is_folder z.kind) (head-eq_of_cons-eq e) ∙ c))
  one f g k p q l m X Y a b h R S O U (other x d L) (other y c M) e =
      let z = head-eq_of_cons-eq e in
      let t = one f g (suc k) p q _ _ X Y a b (omega arith) R S O U L M (tail-eq_of_cons-eq e) in
      (λ i. record { folder = a i; slot = k; path = (z i).path } ∷ t.0 i, t.1)
  one f g k p q l m X Y a b h R S O U (folder {m = l1} {l = l2} x d N L) (folder {m = m1} {l = m2} y c N' M) e =
      let z = head-eq_of_cons-eq e in
      let s = sym (items-append v l1 l2 X) ∙ tail-eq_of_cons-eq e ∙ items-append w m1 m2 Y in
      let r = one (v.slot f k).id (w.slot g k).id 2 (visit v f p k).path (visit w g q k).path l1 m1 (items_of v l2 ++ X) (items_of w m2 ++ Y)
      (ap (λ (y : Item). y.id) z) (ap (λ (y : Item). y.path) z) (omega arith) (down k R h x refl d refl) (down k S h y refl c refl)
      (after v I f (suc k) p (name_of (v.slot f k).name) l2 X R (omega arith) L O) (after w J g (suc k) q (name_of (w.slot g k).name) m2 Y S (omega arith) M U) N N' s in
      let t = one f g (suc k) p q l2 m2 X Y a b (omega arith) R S O U L M r.1 in
      (λ i. record { folder = a i; slot = k; path = (z i).path } ∷ (r.0 i ++ t.0 i), t.1)

pub lists : Lists
unfolding Lists Texts
lists a b c d M N e =
    let I = (fair-spelt a empty_table (check-pass a empty_table c) M).tidy in
    let J = (fair-spelt b empty_table (check-pass b empty_table d) N).tidy in
    (one (stored_tree a) (stored_tree b) I J 2 2 2 [] [] (visits (stored_tree a)) (visits (stored_tree b)) [] [] refl refl (omega arith) root root over over (in_order (stored_tree a) I) (in_order (stored_tree b) J)
    (ap (λ (l : List Item). l ++ []) (texts a b e))).0
