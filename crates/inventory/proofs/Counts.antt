-- A node's lines, as-many-as-links: in a list of slots that are due they are the sum, over folders and slots that name it, of how often the slot is listed. Each
-- is listed once, so the sum is the number of its names.
use mathlib.Core.Path.{◌≡◌, refl, sym, ap, ◌∙◌}
use mathlib.Core.Bool.{Bool, true, false, ◌&&◌}
use mathlib.Core.List.{List, [], ◌∷◌}
use mathlib.Core.Logic.{◌≢◌}
use Prim.Native.Nat.{ℕ, ◌+◌, ◌-◌, ◌≤◌, ◌<◌}
use native.Mathlib.Omega.{arith}
use lib.Dec.{eqb}
use borrow.Author.Tests.{eq-eqb, ne_eqb}
use Rattle.base.specs.Count.{bit, sum_to, count_to}
use Rattle.base.specs.Search.{pick}
use Rattle.base.proofs.Bools.{and-false}
use Rattle.base.proofs.Counts.{sum_to-cong, sum_to-change, sum_to-add, sum_to-zero}
use Rattle.structs.specs.Types.{is_folder}
use Rattle.tree.specs.Tree.{Spelling, Tree, folder_at, names_of, all_names, Tidy}
use Rattle.tree.proofs.Trees.{pick-like, folder-is}
use Rattle.inventory.specs.Visits.{Visit, visit, visits}
use Rattle.inventory.specs.Inventory.{stored_tree}
use Rattle.inventory.specs.Promises.{times, Due, Each, none, more, lines_for, AsManyAsLinks}
use Rattle.inventory.proofs.Levels.{level-lives}
use Rattle.inventory.proofs.Once.{reached-level, due-once}
use Rattle.inventory.proofs.Due.{only-due, slot_due}
use Rattle.inventory.proofs.Delivers.{tidy}

-- ---- sums

-- one part alone
sum_one : (f : ℕ → ℕ) (n k : ℕ) → k < n → ((i : ℕ) → i ≢ k → f i ≡ 0) → sum_to f n ≡ f k
sum_one f n k l h = let c = sum_to-change f (λ i. 0) n k l h in let z = sum_to-zero n in omega (arith, c, z)

pick-none : (b : Bool) → pick {A = ℕ} b 0 0 ≡ 0
pick-none true = refl
pick-none false = refl

pick-sum : (b : Bool) (m n : ℕ) → pick b (m + n) 0 ≡ pick b m 0 + pick b n 0
pick-sum true m n = refl
pick-sum false m n = refl

pick-bit : (b : Bool) → pick {A = ℕ} b 1 0 ≡ bit b
pick-bit true = refl
pick-bit false = refl

module _ (v : Tree) {style : Spelling} (I : Tidy style v) (id : ℕ) where
  -- a weight for each later slot of each folder: summed over those that name id
  abbrev inner : (ℕ → ℕ → ℕ) → ℕ → ℕ → ℕ
  inner w f j = pick (eqb (v.slot f (2 + j)).id id) (w f (2 + j)) 0

  abbrev outer : (ℕ → ℕ → ℕ) → ℕ → ℕ
  outer w f = pick (folder_at v f) (sum_to (inner w f) (v.blocks f - 2)) 0

  weighed : (ℕ → ℕ → ℕ) → ℕ
  weighed w = sum_to (outer w) v.ids

  weighed-like : (w u : ℕ → ℕ → ℕ) → ((f j : ℕ) → folder_at v f ≡ true → j < v.blocks f - 2 → w f (2 + j) ≡ u f (2 + j)) → weighed w ≡ weighed u
  unfolding weighed
  weighed-like w u h =
      sum_to-cong (outer w) (outer u) v.ids (λ f l. pick-like (folder_at v f) (λ F.
      sum_to-cong (inner w f) (inner u f) (v.blocks f - 2) (λ j m. ap (λ (n : ℕ). pick (eqb (v.slot f (2 + j)).id id) n 0) (h f j F m))))

  weighed-none : weighed (λ f k. 0) ≡ 0
  unfolding weighed
  weighed-none =
      sum_to-cong (outer (λ f k. 0)) (λ f. 0) v.ids (λ f l.
      ap (λ (n : ℕ). pick (folder_at v f) n 0) (sum_to-cong (inner (λ f k. 0) f) (λ j. 0) (v.blocks f - 2) (λ j m. pick-none (eqb (v.slot f (2 + j)).id id)) ∙ sum_to-zero (v.blocks f - 2))
      ∙ pick-none (folder_at v f))
      ∙ sum_to-zero v.ids

  weighed-sum : (w u : ℕ → ℕ → ℕ) → weighed (λ f k. w f k + u f k) ≡ weighed w + weighed u
  unfolding weighed
  weighed-sum w u =
      sum_to-cong (outer (λ f k. w f k + u f k)) (λ f. outer w f + outer u f) v.ids (λ f l.
      ap (λ (n : ℕ). pick (folder_at v f) n 0)
      (sum_to-cong (inner (λ f k. w f k + u f k) f) (λ j. inner w f j + inner u f j) (v.blocks f - 2) (λ j m. pick-sum (eqb (v.slot f (2 + j)).id id) (w f (2 + j)) (u f (2 + j)))
      ∙ sum_to-add (inner w f) (inner u f) (v.blocks f - 2))
      ∙ pick-sum (folder_at v f) (sum_to (inner w f) (v.blocks f - 2)) (sum_to (inner u f) (v.blocks f - 2)))
      ∙ sum_to-add (outer w) (outer u) v.ids

  -- one slot alone
  abbrev here : ℕ → ℕ → ℕ → ℕ → ℕ
  here g i f k = bit (eqb g f && eqb i k)

  here-folder : (g i f k : ℕ) → f ≢ g → here g i f k ≡ 0
  here-folder g i f k n = ap (λ (b : Bool). bit (b && eqb i k)) (ne_eqb g f (λ e. n (sym e)))

  here-slot : (g i f k : ℕ) → k ≢ i → here g i f k ≡ 0
  here-slot g i f k n = ap (λ (b : Bool). bit (eqb g f && b)) (ne_eqb i k (λ e. n (sym e))) ∙ ap bit (and-false (eqb g f))

  here-own : (g i : ℕ) → here g i g i ≡ 1
  here-own g i = ap (λ (b : Bool). bit (b && eqb i i)) (eq-eqb g g refl) ∙ ap bit (eq-eqb i i refl)

  outer-else : (g i f : ℕ) → f ≢ g → outer (here g i) f ≡ 0
  outer-else g i f n =
      ap (λ (m : ℕ). pick (folder_at v f) m 0)
      (sum_to-cong (inner (here g i) f) (λ j. 0) (v.blocks f - 2) (λ j l. ap (λ (m : ℕ). pick (eqb (v.slot f (2 + j)).id id) m 0) (here-folder g i f (2 + j) n) ∙ pick-none (eqb (v.slot f (2 + j)).id id))
      ∙ sum_to-zero (v.blocks f - 2))
      ∙ pick-none (folder_at v f)

  inner-one : (g i : ℕ) → 2 ≤ i → i < v.blocks g → sum_to (inner (here g i) g) (v.blocks g - 2) ≡ bit (eqb (v.slot g i).id id)
  inner-one g i x y =
      let e : 2 + (i - 2) ≡ i = omega arith in
      sum_one (inner (here g i) g) (v.blocks g - 2) (i - 2) (omega arith)
      (λ j n. ap (λ (m : ℕ). pick (eqb (v.slot g (2 + j)).id id) m 0) (here-slot g i g (2 + j) (λ z. n (omega (arith, z)))) ∙ pick-none (eqb (v.slot g (2 + j)).id id))
      ∙ ap (λ (k : ℕ). pick (eqb (v.slot g k).id id) (here g i g k) 0) e
      ∙ ap (λ (m : ℕ). pick (eqb (v.slot g i).id id) m 0) (here-own g i)
      ∙ pick-bit (eqb (v.slot g i).id id)

  weighed-one : (g i : ℕ) → folder_at v g ≡ true → 2 ≤ i → i < v.blocks g → weighed (here g i) ≡ bit (eqb (v.slot g i).id id)
  unfolding weighed
  weighed-one g i G x y =
      sum_one (outer (here g i)) v.ids g (I.below g (folder-is v g G)) (outer-else g i)
      ∙ ap (λ (b : Bool). pick b (sum_to (inner (here g i) g) (v.blocks g - 2)) 0) G
      ∙ inner-one g i x y

  -- a list's lines for id
  lines-weighed : (l : List Visit) → Each (Due v) l → lines_for v id l ≡ weighed (λ f k. times f k l)
  unfolding lines_for times
  lines-weighed [] none = sym weighed-none
  lines-weighed (x ∷ l) (more D E) =
      let L = reached-level v I x.folder D.at D.reached in
      let o = weighed-one x.folder x.slot (level-lives v I x.folder L.0 L.1).folder D.later D.inside in
      let r = lines-weighed l E in
      let s = weighed-sum (here x.folder x.slot) (λ f k. times f k l) in
      omega (arith, o, r, s)

  names-weighed : weighed (λ f k. 1) ≡ all_names v id
  unfolding weighed all_names names_of count_to
  names-weighed =
      sum_to-cong (outer (λ f k. 1)) (λ f. pick (folder_at v f) (names_of v f id) 0) v.ids (λ f l.
      ap (λ (n : ℕ). pick (folder_at v f) n 0) (sum_to-cong (inner (λ f k. 1) f) (λ j. bit (eqb (v.slot f (2 + j)).id id)) (v.blocks f - 2) (λ j m. pick-bit (eqb (v.slot f (2 + j)).id id))))

  lines-names : lines_for v id (visits v) ≡ all_names v id
  lines-names =
      lines-weighed (visits v) (only-due v)
      ∙ weighed-like (λ f k. times f k (visits v)) (λ f k. 1) (λ f j F l. let D = slot_due v I f (2 + j) F (omega arith) (omega arith) in due-once v I (visit v f D.0 (2 + j)) D.1)
      ∙ names-weighed

pub as-many-as-links : AsManyAsLinks
unfolding AsManyAsLinks
as-many-as-links a e id n d =
    let I = tidy a e in
    lines-names (stored_tree a) I id ∙ sym (I.other id n (ap (λ (b : Bool). b && is_folder ((stored_tree a).kind id)) n ∙ d))
