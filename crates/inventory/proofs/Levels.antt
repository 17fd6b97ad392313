-- How deep a folder lies: the steps from it up to root. In a tidy tree what a later slot of a folder names, if it is a folder, lies one step deeper,
-- and no folder lies as deep as there are ids.
use mathlib.Core.Path.{◌≡◌, refl, sym, ◌∙◌, subst}
use mathlib.Core.Bool.{true}
use mathlib.Core.Logic.{◌≢◌}
use Prim.Native.Nat.{ℕ, zero, suc, ◌≤◌, ◌<◌}
use native.Mathlib.Omega.{arith}
use Rattle.base.proofs.Bools.{and_both}
use Rattle.structs.specs.Types.{is_folder}
use Rattle.tree.specs.Tree.{Spelling, Tree, folder_at, parent, up, Lives, Tidy}
use Rattle.tree.proofs.Trees.{up_first, none-removed}
use Rattle.tree.proofs.Ways.{slot_counts, names-part, one_parent, climbs-soon}

-- folder c lies d steps below root
pub data Level (v : Tree) : ℕ → ℕ → Type 0 where
  top : Level v 2 0
  step : {c d : ℕ} → Lives v c → c ≢ 2 → Level v (parent v c) d → Level v c (suc d)

pub up_start : (v : Tree) (i : ℕ) → up v i 0 ≡ i
unfolding up
up_start v i = refl

pub up_more : (v : Tree) (i n : ℕ) → up v i (suc n) ≡ parent v (up v i n)
unfolding up
up_more v i n = refl

-- so many steps up is root, and no fewer
pub level-up : (v : Tree) (c d : ℕ) → Level v c d → up v c d ≡ 2
level-up v c d top = up_start v 2
level-up v c (suc d) (step l n L) = up_first v c d ∙ level-up v (parent v c) d L

pub level-least : (v : Tree) (c d n : ℕ) → Level v c d → up v c n ≡ 2 → d ≤ n
level-least v c d n top e = omega arith
level-least v c (suc d) zero (step l m L) e = absurd (m (sym (up_start v c) ∙ e))
level-least v c (suc d) (suc n) (step l m L) e = let h = level-least v (parent v c) d n L (sym (up_first v c n) ∙ e) in omega (arith, h)

pub level-one : (v : Tree) (c d e : ℕ) → Level v c d → Level v c e → d ≡ e
level-one v c d e L M = let x = level-least v c d e L (level-up v c e M) in let y = level-least v c e d M (level-up v c d L) in omega (arith, x, y)

module _ (v : Tree) {style : Spelling} (I : Tidy style v) where
  pub level-lives : (c d : ℕ) → Level v c d → Lives v c
  level-lives c d top = I.two
  level-lives c (suc d) (step l n L) = l

  pub level-soon : (c d : ℕ) → Level v c d → d < v.ids
  level-soon c d L =
      let w = climbs-soon v I c (level-lives c d L) in
      let l = level-least v c d w.0 L w.2 in
      let s = w.1 in
      omega (arith, l, s)

  -- what a later slot of a folder names, where it is a folder, has links
  named-lives : (f k c : ℕ) → folder_at v f ≡ true → 2 ≤ k → k < v.blocks f → (v.slot f k).id ≡ c → is_folder (v.kind c) ≡ true → Lives v c
  named-lives f k c F x y e d =
      let N = ((I.folder f F).later k x y).node in
      let g : folder_at v c ≡ true = and_both (subst (λ (i : ℕ). v.node i ≡ true) e N) d in
      record {
        folder = g;
        links = λ z. omega (arith, (none-removed v I c g z).unnamed, slot_counts v f k c x y e, names-part v I c f F);
      }

  -- and lies one step deeper
  pub level-down : (f d k c : ℕ) → Level v f d → 2 ≤ k → k < v.blocks f → (v.slot f k).id ≡ c → is_folder (v.kind c) ≡ true → Level v c (suc d)
  level-down f d k c L x y e g =
      let F = (level-lives f d L).folder in
      let l = named-lives f k c F x y e g in
      let o = one_parent v I c l f k F x y e in
      step l o.0 (subst (λ (i : ℕ). Level v i d) o.1 L)
