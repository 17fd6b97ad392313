-- Where no stored name has a slash, a path leads to one folder, and two lines with one path are one line.
use mathlib.Core.Path.{◌≡◌, refl, sym, ap, ◌∙◌, subst}
use mathlib.Core.Bool.{true}
use mathlib.Core.List.{List, [], ◌∷◌, ◌++◌, nil≢cons}
use mathlib.Core.Logic.{⊎_elim}
use Prim.Native.Nat.{ℕ, ◌≤◌, ◌<◌}
use Rattle.base.proofs.Finds.{eq-cases}
use Rattle.utf8.specs.Names.{name_of, NoSlash}
use Rattle.utf8.proofs.Names.{slash-says}
use Rattle.table.specs.Table.{empty_table}
use Rattle.rules.proofs.Check.{check-pass}
use Rattle.tree.specs.Tree.{Tree, slashless, folder_at, Tidy}
use Rattle.tree.proofs.Trees.{names-differ}
use Rattle.image.proofs.Images.{fair-spelt}
use Rattle.inventory.specs.Text.{escape, path_to}
use Rattle.inventory.specs.Visits.{Visit}
use Rattle.inventory.specs.Inventory.{stored_tree}
use Rattle.inventory.specs.Promises.{ReachedBy, root, down, Due, Unlike, Escapes}
use Rattle.inventory.proofs.Escapes.{escapes, escape-without, last-mark}
use Rattle.inventory.proofs.Levels.{level-lives}
use Rattle.inventory.proofs.Once.{reached-level}

pub path-parts : (p n : List ℕ) → path_to p n ≡ p ++ (47 ∷ escape n)
unfolding path_to
path-parts p n = refl

path-some : (p n : List ℕ) → [] ≡ path_to p n → ⊥
unfolding path_to
path-some [] n e = nil≢cons e
path-some (b ∷ p) n e = nil≢cons e

path-one : (p q n m : List ℕ) → NoSlash n → NoSlash m → path_to p n ≡ path_to q m → (p ≡ q) × (n ≡ m)
unfolding Escapes
path-one p q n m F G e =
    let r = last-mark 47 p q (escape n) (escape m) (escape-without n F) (escape-without m G) (sym (path-parts p n) ∙ e ∙ path-parts q m) in
    (r.0, escapes n m r.1)

module _ (v : Tree) (I : Tidy slashless v) where
  pub name_free : (f k : ℕ) → folder_at v f ≡ true → 2 ≤ k → k < v.blocks f → NoSlash (name_of (v.slot f k).name)
  name_free f k F x y = slash-says (name_of (v.slot f k).name) ((I.folder f F).later k x y).spelt

  pub reached-folder : (f : ℕ) (p : List ℕ) → ReachedBy v f p → folder_at v f ≡ true
  reached-folder f p R = let L = reached-level v I f p R in (level-lives v I f L.0 L.1).folder

  -- two slots of a folder with one name are one
  slot-one : (f j k : ℕ) → folder_at v f ≡ true → 2 ≤ j → j < v.blocks f → 2 ≤ k → k < v.blocks f → name_of (v.slot f j).name ≡ name_of (v.slot f k).name → j ≡ k
  slot-one f j k F a b c d e = ⊎_elim (λ z. z) (λ z. absurd (names-differ v f (I.folder f F) j k z a c b d e)) (eq-cases j k)

  -- of two slots, each of a folder with a path, where the whole paths are one: the folders' paths are, and the names
  both-parts : (f g j k : ℕ) (p q : List ℕ) → ReachedBy v f p → ReachedBy v g q → 2 ≤ j → j < v.blocks f → 2 ≤ k → k < v.blocks g
      → path_to p (name_of (v.slot f j).name) ≡ path_to q (name_of (v.slot g k).name) → (p ≡ q) × (name_of (v.slot f j).name ≡ name_of (v.slot g k).name)
  both-parts f g j k p q R S a b c d e =
      let F = reached-folder f p R in
      let G = reached-folder g q S in
      path-one p q (name_of (v.slot f j).name) (name_of (v.slot g k).name) (name_free f j F a b) (name_free g k G c d) e

  slot_same : (f g j k : ℕ) (p : List ℕ) → ReachedBy v f p → f ≡ g → 2 ≤ j → j < v.blocks f → 2 ≤ k → k < v.blocks g → name_of (v.slot f j).name ≡ name_of (v.slot g k).name → j ≡ k
  slot_same f g j k p R z a b c d e =
      slot-one f j k (reached-folder f p R) a b c (subst (λ (i : ℕ). k < v.blocks i) (sym z) d) (e ∙ ap (λ (i : ℕ). name_of (v.slot i k).name) (sym z))

  -- a path leads to one folder
  reached-one : (f g : ℕ) (p q : List ℕ) → ReachedBy v f p → ReachedBy v g q → p ≡ q → f ≡ g
  reached-one f g p q root root e = refl
  reached-one f g p q root (down {f = h} {p = t} k S x y a d w) e = absurd (path-some t (name_of (v.slot h k).name) (e ∙ w))
  reached-one f g p q (down {f = h} {p = t} k R x y a d w) root e = absurd (path-some t (name_of (v.slot h k).name) (sym e ∙ w))
  reached-one f g p q (down {f = h} {p = t} k R x y a d w) (down {f = i} {p = u} j S z s b c o) e =
      let r = both-parts h i k j t u R S x y z s (sym w ∙ e ∙ o) in
      let n = reached-one h i t u R S r.0 in
      let m = slot_same h i k j t R n x y z s r.1 in
      sym a ∙ (λ l. (v.slot (n l) (m l)).id) ∙ b

  due-one : (x y : Visit) → Due v x → Due v y → x.path ≡ y.path → (x.folder ≡ y.folder) × (x.slot ≡ y.slot)
  due-one x y D E e =
      let r = both-parts x.folder y.folder x.slot y.slot D.at E.at D.reached E.reached D.later D.inside E.later E.inside (sym D.path ∙ e ∙ E.path) in
      let n = reached-one x.folder y.folder D.at E.at D.reached E.reached r.0 in
      (n, slot_same x.folder y.folder x.slot y.slot D.at D.reached n D.later D.inside E.later E.inside r.1)

pub unlike : Unlike
unfolding Unlike
unlike a e N = due-one (stored_tree a) (fair-spelt a empty_table (check-pass a empty_table e) N).tidy
