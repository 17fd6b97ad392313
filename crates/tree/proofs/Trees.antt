-- What follows from a tidy tree at once.
use mathlib.Core.Path.{◌≡◌, refl, sym, ap, ◌∙◌, subst}
use mathlib.Core.Bool.{Bool, true, false}
use mathlib.Core.List.{List}
use mathlib.Core.Logic.{◌≢◌, ⊎_elim}
use Prim.Native.Nat.{ℕ, ◌<◌, zero, suc, ◌≤◌}
use lib.Dec.{eqb}
use borrow.Author.Tests.{eq-eqb, ne_eqb}
use Rattle.base.proofs.Finds.{eq-cases}
use Rattle.base.specs.Search.{pick}
use native.Mathlib.Omega.{arith}
use Rattle.structs.specs.Types.{is_folder}
use Rattle.base.proofs.Bools.{and_parts}
use Rattle.base.proofs.Numbers.{lt-or-le}
use Rattle.utf8.specs.Names.{name_of, has_slash}
use Rattle.tree.specs.Tree.{Spelling, any, slashless, Spelt, Tree, folder_at, parent, up, FolderIn, LinkedIn, RemovedIn, Lives, Tidy}

-- f, but n at x
abbrev pub at : ℕ → ℕ → (ℕ → ℕ) → ℕ → ℕ
at x n f y = pick (eqb y x) n (f y)

pub at_here : (x n : ℕ) (f : ℕ → ℕ) → at x n f x ≡ n
at_here x n f = ap (λ (b : Bool). pick b n (f x)) (eq-eqb x x refl)

pub at-else : (x n : ℕ) (f : ℕ → ℕ) (y : ℕ) → y ≢ x → at x n f y ≡ f y
at-else x n f y d = ap (λ (b : Bool). pick b n (f y)) (ne_eqb y x d)

pub pick-like : (b : Bool) {m n : ℕ} → (b ≡ true → m ≡ n) → pick b m 0 ≡ pick b n 0
pick-like true h = h refl
pick-like false h = refl

pub folder-is : (v : Tree) (i : ℕ) → folder_at v i ≡ true → v.node i ≡ true
folder-is v i f = (and_parts (v.node i) (is_folder (v.kind i)) f).0

-- a name without a slash is spelt in either way
pub spelt-new : (style : Spelling) (name : List ℕ) → has_slash name ≡ false → Spelt style name
spelt-new any name e = tt
spelt-new slashless name e = e

-- two later slots of a folder have two names
pub names-differ : {style : Spelling} (v : Tree) (i : ℕ) → FolderIn style v i → (h j : ℕ) → h ≢ j → 2 ≤ h → 2 ≤ j → h < v.blocks i → j < v.blocks i → name_of (v.slot i h).name ≢ name_of (v.slot i j).name
names-differ v i F h j n x y p q =
    ⊎_elim
    (λ (l : h < j). F.distinct h j x l q)
    (λ (l : j ≤ h). λ e. F.distinct j h y (⊎_elim (λ m. m) (λ m. absurd (n (omega arith))) (lt-or-le j h)) p (sym e))
    (lt-or-le h j)

module _ (v : Tree) {style : Spelling} (I : Tidy style v) where
  pub lives-linked : (i : ℕ) → Lives v i → LinkedIn v i
  lives-linked i l = ⊎_elim (λ h. h) (λ (h : RemovedIn v i). absurd (l.links h.links)) (I.either i l.folder)

  pub none-removed : (i : ℕ) → folder_at v i ≡ true → v.links i ≡ 0 → RemovedIn v i
  none-removed i f z = ⊎_elim (λ (h : LinkedIn v i). absurd (omega (arith, h.links))) (λ h. h) (I.either i f)

  -- the parent of a folder with links is one too
  pub parent-lives : (i : ℕ) → Lives v i → Lives v (parent v i)
  parent-lives i l =
      ⊎_elim
      (λ (e : i ≡ 2). subst (Lives v) (sym (ap (parent v) e ∙ I.root)) I.two)
      (λ n.
      let f = I.parents i l n in
      let k = I.names i l n in
      record { folder = f; links = ⊎_elim (λ (h : LinkedIn v (parent v i)). λ z. omega (arith, h.links)) (λ (h : RemovedIn v (parent v i)). absurd (omega (arith, k.later, k.inside, h.slots))) (I.either (parent v i) f) })
      (eq-cases i 2)

-- one step up first
pub up_first : (v : Tree) (i n : ℕ) → up v i (suc n) ≡ up v (parent v i) n
unfolding up
up_first v i zero = refl
up_first v i (suc n) = ap (parent v) (up_first v i n)
