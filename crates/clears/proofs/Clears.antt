-- All blocks become free: the view is zeros.
use mathlib.Core.Path.{◌≡◌, sym, ap, ◌∙◌}
use mathlib.Core.Bool.{Bool, true}
use mathlib.Core.List.{List}
use Prim.Native.Nat.{ℕ, zero, suc, ◌+◌, ◌*◌, ◌/◌, ◌≤◌, ◌<◌}
use native.Mathlib.Omega.{arith}
use native.Mathlib.Decide.{ℕ_discrete}
use lib.ListN.{length, replicate, length-replicate}
use Rattle.base.proofs.Parts.{get_or-zero-list}
use Rattle.arena.specs.Blocks.{blk, blocks}
use Rattle.arena.specs.Fields.{zeros}
use Rattle.arena.proofs.Blocks.{length-blk, get_or-blk, blk-put_blk-same, blk-put_blk-other, ext-blk}
use Rattle.arena.proofs.Fresh.{length-zeros, zeros-is}
use Rattle.overlay.specs.View.{view, freed, Fine}
use Rattle.overlay.specs.Steps.{Changed}
use Rattle.overlay.proofs.Views.{length-view}
use Rattle.files.specs.Store.{clear_to}
use Rattle.files.proofs.Clears.{length-clear_to, clear_none, clear-more}

-- every block is to be freed
abbrev pub any : List ℕ → Bool
any b = true

-- a block of zeros alone
blk-zeros : (n k : ℕ) → k < blocks (replicate {A = ℕ} n 0) → blk (replicate n 0) k ≡ zeros
blk-zeros n k l = zeros-is _ (length-blk (replicate n 0) k l) (λ j h. get_or-blk (replicate n 0) k j h ∙ get_or-zero-list n (512 * k + j))

-- a block that was freed
blk-freed : (v : List ℕ) (n k : ℕ) → n ≤ blocks v → k < n → blk (clear_to any v n) k ≡ zeros
unfolding clear_to
blk-freed v zero k l h = absurd (omega arith)
blk-freed v (suc n) k l h =
    let e = length-clear_to any v n (omega arith) in
    elim (ℕ_discrete k n) [
      | yes q ↦ rw q (blk-put_blk-same (clear_to any v n) n zeros (omega (arith, e)) length-zeros)
      | no ne ↦ blk-put_blk-other (clear_to any v n) n zeros (omega (arith, e)) length-zeros k ne ∙ blk-freed v n k (omega arith) (omega (arith, ne))
    ]

all-zeros : (v : List ℕ) → length v ≡ 512 * blocks v → clear_to any v (blocks v) ≡ replicate (length v) 0
all-zeros v w =
    let e = length-clear_to any v (blocks v) (omega arith) in
    let z : length (replicate {A = ℕ} (length v) 0) ≡ length v = length-replicate (length v) 0 in
    ext-blk _ _ (omega (arith, e, w)) (e ∙ sym z) (λ k l. blk-freed v (blocks v) k (omega arith) (omega (arith, e)) ∙ sym (blk-zeros (length v) k (omega (arith, e, z))))

-- ---- the loop

-- after k turns: the workspace was w and is u
abbrev pub FreedTo : List ℕ → List ℕ → List ℕ → ℕ → Type 0
FreedTo a w u k = Changed a w u (clear_to any (view a w) k) 0

module _ (a w : List ℕ) (F : Fine a w) where
  pub freed-none : FreedTo a w w 0
  freed-none = clear_none a w F any

  pub freed-more : (u t : List ℕ) (k : ℕ) → k < blocks a → FreedTo a w u k → t ≡ freed u k → FreedTo a w t (k + 1)
  freed-more u t k l c e = clear-more a w F any u t k l c e

  pub freed-all : (u : List ℕ) (k : ℕ) → k ≡ blocks a → FreedTo a w u k → Changed a w u (replicate (length a) 0) 0
  freed-all u k e c =
      let n = length-view a w F in
      let b : k ≡ blocks (view a w) = e ∙ sym (ap (λ (x : ℕ). x / 512) n) in
      let z : clear_to any (view a w) k ≡ replicate (length a) 0 = ap (clear_to any (view a w)) b ∙ all-zeros (view a w) (omega (arith, n, F.whole)) ∙ ap (λ (x : ℕ). replicate x 0) n in
      record { is = c.is ∙ z; fine = c.fine; room = c.room }
