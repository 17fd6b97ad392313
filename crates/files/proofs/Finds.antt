-- Searches over the blocks of a view, and what their answers say of it.
use mathlib.Core.Path.{◌≡◌, sym, ap, ap₂, ◌∙◌}
use mathlib.Core.Bool.{Bool, true, false}
use mathlib.Core.List.{List}
use Prim.Native.Nat.{ℕ, ◌≤◌, ◌<◌}
use native.Mathlib.Omega.{arith}
use lib.Dec.{ltb}
use borrow.Author.Tests.{lt-ltb, le-ltb}
use Rattle.base.specs.Search.{lowest}
use Rattle.base.proofs.Searches.{lowest-here, lowest-none, lowest-cong}
use Rattle.arena.specs.Blocks.{blk, blocks}
use Rattle.arena.specs.Fields.{File, number_of}
use Rattle.arena.specs.Places.{head_of, data_of}
use Rattle.overlay.specs.View.{blk_of, view, Fine}
use Rattle.overlay.proofs.Views.{blocks-view, blk-view}
use Rattle.files.specs.Read.{there, length_of, present}

-- a test that the code made of x's copy
pub tested : {A : Type 0} (P : A → Bool) {r t : Bool} {b x : A} → r ≡ P b → b ≡ x → r ≡ t → P x ≡ t
tested P e f g = ap P (sym f) ∙ sym e ∙ g

module _ (a w : List ℕ) (F : Fine a w) where
  -- ---- a loop over the blocks of the view, for any test

  seek-view : (P : List ℕ → Bool) → lowest (λ j. P (blk (view a w) j)) (blocks (view a w)) ≡ lowest (λ j. P (blk_of a w j)) (blocks a)
  seek-view P = ap (lowest (λ j. P (blk (view a w) j))) (blocks-view a w F) ∙ lowest-cong _ _ (blocks a) (λ j l. ap P (blk-view a w F j l))

  -- one that stops at k, and one that passed all
  pub seek-here : (P : List ℕ → Bool) (k : ℕ) → k < blocks a → ((j : ℕ) → j < k → P (blk_of a w j) ≡ false) → P (blk_of a w k) ≡ true → k ≡ lowest (λ j. P (blk (view a w) j)) (blocks (view a w))
  seek-here P k l before hit = lowest-here (λ j. P (blk_of a w j)) (blocks a) k l before hit ∙ sym (seek-view P)

  pub seek-none : (P : List ℕ → Bool) (k : ℕ) → blocks a ≤ k → ((j : ℕ) → j < k → P (blk_of a w j) ≡ false) → blocks a ≡ lowest (λ j. P (blk (view a w) j)) (blocks (view a w))
  seek-none P k l before = lowest-none (λ j. P (blk_of a w j)) (blocks a) (λ j h. before j (omega arith)) ∙ sym (seek-view P)

  -- ---- what is found is there

  pub below-view : (x k : ℕ) → k ≡ x → k < blocks a → ltb x (blocks (view a w)) ≡ true
  below-view x k e l = lt-ltb x (blocks (view a w)) (omega (arith, blocks-view a w F))

  pub above_view : (x k : ℕ) → k ≡ x → blocks a ≤ k → ltb x (blocks (view a w)) ≡ false
  above_view x k e l = le-ltb x (blocks (view a w)) (omega (arith, blocks-view a w F))

  pub there-is : (f : File) (k : ℕ) → k ≡ head_of (view a w) f → ltb k (blocks a) ≡ there (view a w) f
  unfolding there
  there-is f k e = ap₂ ltb e (sym (blocks-view a w F))

  pub there-yes : (f : File) (k : ℕ) → k ≡ head_of (view a w) f → k < blocks a → there (view a w) f ≡ true
  unfolding there
  there-yes f k e l = below-view (head_of (view a w) f) k e l

  pub there-no : (f : File) (k : ℕ) → k ≡ head_of (view a w) f → blocks a ≤ k → there (view a w) f ≡ false
  unfolding there
  there-no f k e l = above_view (head_of (view a w) f) k e l

  pub present-yes : (f : File) (q k : ℕ) → k ≡ data_of (view a w) f q → k < blocks a → present (view a w) f q ≡ true
  unfolding present
  present-yes f q k e l = below-view (data_of (view a w) f q) k e l

  pub present-no : (f : File) (q k : ℕ) → k ≡ data_of (view a w) f q → blocks a ≤ k → present (view a w) f q ≡ false
  unfolding present
  present-no f q k e l = above_view (data_of (view a w) f q) k e l

  -- the length, as the code reads it
  pub length-here : (f : File) (k len : ℕ) → k ≡ head_of (view a w) f → k < blocks a → len ≡ number_of (blk_of a w k) → len ≡ length_of (view a w) f
  unfolding length_of
  length-here f k len e l h =
      rw (there-yes f k e l) (h ∙ ap number_of (sym (blk-view a w F k l)) ∙ ap (λ (j : ℕ). number_of (blk (view a w) j)) e)

  pub length_none : (f : File) (k : ℕ) → k ≡ head_of (view a w) f → blocks a ≤ k → 0 ≡ length_of (view a w) f
  unfolding length_of
  length_none f k e l = rw (there-no f k e l)
