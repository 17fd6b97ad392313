-- The steps of one block: what the code's stores mean on the view.
use mathlib.Core.Path.{◌≡◌, refl, ap, ◌∙◌}
use mathlib.Core.List.{List}
use Prim.Native.Nat.{ℕ, ◌+◌, ◌-◌, ◌≤◌, ◌<◌, ◌/◌, ◌%◌}
use native.Mathlib.Omega.{arith}
use lib.ListN.{length, replicate, length-replicate}
use lib.Dec.{ltb}
use borrow.Author.Tests.{lt-ltb, le-ltb}
use Rattle.base.specs.Parts.{paste}
use Rattle.base.specs.Search.{pick}
use Rattle.base.proofs.Lists.{length-paste}
use Rattle.arena.specs.Blocks.{blk, put_blk, blocks}
use Rattle.arena.specs.Fields.{File, number_of, seal, fresh}
use Rattle.arena.specs.Places.{free_of, data_of}
use Rattle.overlay.specs.View.{blk_of, view, left, stored, Fine}
use Rattle.overlay.specs.Steps.{Changed, Did, went, stopped}
use Rattle.overlay.proofs.Views.{blk-view, length-blk_of, changed-stored}
use Rattle.overlay.proofs.Chains.{changed-none, changed-more}
use Rattle.files.specs.Store.{claim, write_blk, zero_tail}
use Rattle.files.proofs.Finds.{below-view, above_view, present-yes, present-no}

module _ (a w : List ℕ) (F : Fine a w) where
  -- bytes of block k, changed in a copy that is stored
  pub changed-edit : (k off : ℕ) (src b u : List ℕ) → k < blocks a → 1 ≤ left w → off + length src ≤ 512 → b ≡ paste (blk_of a w k) off src → u ≡ stored w k b → Changed a w u (put_blk (view a w) k (seal (paste (blk (view a w) k) off src))) 1
  changed-edit k off src b u lk m h e eu =
      let lo = length-blk_of a w F k lk in
      let lb : length b ≡ 512 = ap length e ∙ length-paste (blk_of a w k) off src (omega arith) ∙ lo in
      rw (eu, blk-view a w F k lk, ← e) (changed-stored a w F k b lk lb m)

  -- a new block, and none left
  pub did-claim : (k : ℕ) (b u : List ℕ) → k ≡ free_of (view a w) → k < blocks a → 1 ≤ left w → length b ≡ 512 → u ≡ stored w k b → Did (claim (view a w) b) a w u 1 0
  unfolding claim
  did-claim k b u e lk m lb eu = went {v = put_blk (view a w) k (seal b)} (rw (below-view a w F (free_of (view a w)) k e lk, ← e) refl) (rw eu (changed-stored a w F k b lk lb m))

  pub did-full : (k : ℕ) (b u : List ℕ) → k ≡ free_of (view a w) → blocks a ≤ k → Did (claim (view a w) b) a w u 1 17
  unfolding claim
  did-full k b u e lk = stopped {r = 17} (omega arith) (rw (above_view a w F (free_of (view a w)) k e lk))

  -- a block of a file, new or there
  pub did-write-new : (f : File) (q off : ℕ) (src u : List ℕ) (k r : ℕ) → k ≡ data_of (view a w) f q → blocks a ≤ k → Did (claim (view a w) (paste (fresh 2 f q) (24 + off) src)) a w u 1 r → Did (write_blk (view a w) f q off src) a w u 1 r
  unfolding write_blk
  did-write-new f q off src u k r e lk d = rw (present-no a w F f q k e lk) d

  pub did-write-old : (f : File) (q off : ℕ) (src u : List ℕ) (k : ℕ) → k ≡ data_of (view a w) f q → k < blocks a → Changed a w u (put_blk (view a w) k (seal (paste (blk (view a w) k) (24 + off) src))) 1 → Did (write_blk (view a w) f q off src) a w u 1 0
  unfolding write_blk
  did-write-old f q off src u k e lk d = went {v = put_blk (view a w) k (seal (paste (blk (view a w) k) (24 + off) src))} (rw (present-yes a w F f q k e lk, ← e) refl) d

  -- a length that need not be raised, and one that must
  pub changed-low : (k n len : ℕ) (x : List ℕ) → k < blocks a → n ≡ number_of (blk_of a w k) → len ≤ n → Changed a w w (pick (ltb (number_of (blk (view a w) k)) len) x (view a w)) 1
  changed-low k n len x lk e l =
      rw (le-ltb (number_of (blk (view a w) k)) len (omega (arith, ap number_of (blk-view a w F k lk)))) (changed-more 1 (omega arith) (changed-none a w F))

  pub changed-high : (k n len : ℕ) (x u : List ℕ) → k < blocks a → n ≡ number_of (blk_of a w k) → n < len → Changed a w u x 1 → Changed a w u (pick (ltb (number_of (blk (view a w) k)) len) x (view a w)) 1
  changed-high k n len x u lk e l d =
      rw (lt-ltb (number_of (blk (view a w) k)) len (omega (arith, ap number_of (blk-view a w F k lk)))) d

  -- the tail of a block, absent or there
  pub changed-no-tail : (f : File) (len k : ℕ) → k ≡ data_of (view a w) f (len / 480) → blocks a ≤ k → Changed a w w (zero_tail (view a w) f len) 1
  unfolding zero_tail
  changed-no-tail f len k e lk = rw (present-no a w F f (len / 480) k e lk) (changed-more 1 (omega arith) (changed-none a w F))

  pub changed-tail : (f : File) (len k : ℕ) (b u : List ℕ) → k ≡ data_of (view a w) f (len / 480) → k < blocks a → 1 ≤ left w → b ≡ paste (blk_of a w k) (24 + len % 480) (replicate (480 - len % 480) 0) → u ≡ stored w k b → Changed a w u (zero_tail (view a w) f len) 1
  unfolding zero_tail
  changed-tail f len k b u e lk m eb eu =
      rw (present-yes a w F f (len / 480) k e lk, ← e)
      (changed-edit k (24 + len % 480) (replicate (480 - len % 480) 0) b u lk m (omega (arith, length-replicate {A = ℕ} (480 - len % 480) 0)) eb eu)
