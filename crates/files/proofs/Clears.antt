-- Blocks that become free, one after another; cut and drop.
use mathlib.Core.Path.{◌≡◌, refl, sym, ap, ◌∙◌}
use mathlib.Core.Bool.{Bool, true, false}
use mathlib.Core.List.{List}
use Prim.Native.Nat.{ℕ, zero, suc, ◌+◌, ◌≤◌, ◌<◌}
use native.Mathlib.Numerals.{add-one}
use native.Mathlib.Omega.{arith}
use lib.ListN.{length}
use borrow.Author.Tests.{le-leb, lt-leb}
use Rattle.base.specs.Search.{pick}
use Rattle.le.specs.Le.{le_put}
use Rattle.arena.specs.Blocks.{blk, put_blk, blocks}
use Rattle.arena.specs.Fields.{File, seal, zeros}
use Rattle.arena.specs.Places.{head_of}
use Rattle.arena.proofs.Blocks.{length-put_blk, blk-put_blk-other}
use Rattle.arena.proofs.Fresh.{length-zeros}
use Rattle.overlay.specs.View.{blk_of, view, freed, Fine}
use Rattle.overlay.specs.Steps.{Changed, Did, went, stopped}
use Rattle.overlay.proofs.Views.{blocks-view, blk-view, changed-freed}
use Rattle.overlay.proofs.Chains.{changed-none, changed_then}
use Rattle.files.specs.Read.{there}
use Rattle.files.specs.Store.{clear_to, clear_all, set_length, is_past, is_of, zero_tail, cut_file, drop_file}

-- ---- the blocks that are still to come are as they were

module _ (p : List ℕ → Bool) (v : List ℕ) where
  pub length-clear_to : (n : ℕ) → n ≤ blocks v → length (clear_to p v n) ≡ length v
  unfolding clear_to
  length-clear_to zero l = refl
  length-clear_to (suc n) l = go (p (blk v n)) (length-clear_to n (omega arith))
    where
      go : (t : Bool) → length (clear_to p v n) ≡ length v → length (pick t (put_blk (clear_to p v n) n zeros) (clear_to p v n)) ≡ length v
      go true r = length-put_blk (clear_to p v n) n zeros (omega arith) length-zeros ∙ r
      go false r = r

  pub blk-clear_to : (n k : ℕ) → n ≤ blocks v → n ≤ k → blk (clear_to p v n) k ≡ blk v k
  unfolding clear_to
  blk-clear_to zero k l h = refl
  blk-clear_to (suc n) k l h = go (p (blk v n)) (blk-clear_to n k (omega arith) (omega arith))
    where
      go : (t : Bool) → blk (clear_to p v n) k ≡ blk v k → blk (pick t (put_blk (clear_to p v n) n zeros) (clear_to p v n)) k ≡ blk v k
      go true r = blk-put_blk-other (clear_to p v n) n zeros (omega (arith, length-clear_to n (omega arith))) length-zeros k (omega arith) ∙ r
      go false r = r

-- ---- the loop that frees them

module _ (a w : List ℕ) (F : Fine a w) (p : List ℕ → Bool) where
  pub clear_none : Changed a w w (clear_to p (view a w) 0) 0
  unfolding clear_to
  clear_none = changed-none a w F

  -- block k of the view so far
  clear-blk : (u : List ℕ) (k : ℕ) → k < blocks a → Changed a w u (clear_to p (view a w) k) 0 → blk_of a u k ≡ blk (view a w) k
  clear-blk u k l c =
      sym (blk-view a u c.fine k l) ∙ ap (λ (x : List ℕ). blk x k) c.is ∙ blk-clear_to p (view a w) k k (omega (arith, blocks-view a w F)) (omega arith)

  clear_step : (u t : List ℕ) (k : ℕ) (b : Bool) → k < blocks a → Changed a w u (clear_to p (view a w) k) 0 → p (blk (view a w) k) ≡ b → t ≡ pick b (freed u k) u → Changed a w t (clear_to p (view a w) (suc k)) 0
  unfolding clear_to
  clear_step u t k true l c e et = rw (e, et, ← c.is) (changed_then c (changed-freed a u c.fine k l))
  clear_step u t k false l c e et = rw (e, et) c

  -- one turn
  pub clear-more : (u t : List ℕ) (k : ℕ) → k < blocks a → Changed a w u (clear_to p (view a w) k) 0 → t ≡ pick (p (blk_of a u k)) (freed u k) u → Changed a w t (clear_to p (view a w) (k + 1)) 0
  clear-more u t k l c e =
      let q = clear-blk u k l c in
      rw add-one (clear_step u t k (p (blk (view a w) k)) l c refl (e ∙ ap (λ (x : List ℕ). pick (p x) (freed u k) u) q))

  -- the same, where the code tested a copy of the block
  pub clear-tested : (u t : List ℕ) (k : ℕ) {r : Bool} {b : List ℕ} → k < blocks a → Changed a w u (clear_to p (view a w) k) 0 → r ≡ p b → b ≡ blk_of a u k → t ≡ pick r (freed u k) u → Changed a w t (clear_to p (view a w) (k + 1)) 0
  clear-tested u t k l c er eb et = clear-more u t k l c (et ∙ ap (λ (x : Bool). pick x (freed u k) u) (er ∙ ap p eb))

  pub clear-all : (u : List ℕ) (k : ℕ) → k ≡ blocks a → Changed a w u (clear_to p (view a w) k) 0 → Changed a w u (clear_all p (view a w)) 0
  unfolding clear_all
  clear-all u k e c = rw (blocks-view a w F, ← e) c

-- ---- cut and drop

module _ (a w : List ℕ) (f : File) where
  pub cut-missing : (u : List ℕ) (len : ℕ) → there (view a w) f ≡ false → Did (cut_file (view a w) f len) a w u 2 19
  unfolding cut_file
  cut-missing u len e = stopped {r = 19} (omega arith) (rw e)

  pub cut-long : (u : List ℕ) (len : ℕ) → there (view a w) f ≡ true → 4294967295 < len → Did (cut_file (view a w) f len) a w u 2 17
  unfolding cut_file
  cut-long u len e l = stopped {r = 17} (omega arith) (rw (e, lt-leb len 4294967295 l))

  -- the length set, the blocks past it freed, the tail zeroed
  pub cut-done : (u t s : List ℕ) (k len : ℕ) → there (view a w) f ≡ true → len ≤ 4294967295 → k ≡ head_of (view a w) f
      → Changed a w u (put_blk (view a w) k (seal (le_put (blk (view a w) k) 20 4 len))) 1
      → Changed a u t (clear_all (is_past f len) (view a u)) 0
      → Changed a t s (zero_tail (view a t) f len) 1
      → Did (cut_file (view a w) f len) a w s 2 0
  unfolding cut_file set_length
  cut-done u t s k len e l ek c d g =
      went {v = zero_tail (view a t) f len} (rw (e, le-leb len 4294967295 l, ← ek, ← c.is, ← d.is) refl) (changed_then (changed_then c d) g)

  pub drop-missing : (u : List ℕ) → there (view a w) f ≡ false → Did (drop_file (view a w) f) a w u 0 19
  unfolding drop_file
  drop-missing u e = stopped {r = 19} (omega arith) (rw e)

  pub drop-done : (u : List ℕ) → there (view a w) f ≡ true → Changed a w u (clear_all (is_of f) (view a w)) 0 → Did (drop_file (view a w) f) a w u 0 0
  unfolding drop_file
  drop-done u e c = went {v = clear_all (is_of f) (view a w)} (rw e) c
