-- The stores: one block by its place, and block by block.
use mathlib.Core.Path.{◌≡◌, sym, ap, ◌∙◌}
use mathlib.Core.Bool.{true}
use mathlib.Core.List.{List}
use Prim.Native.Nat.{ℕ, ◌+◌, ◌-◌, ◌/◌, ◌≤◌, ◌<◌}
use native.Mathlib.Omega.{arith}
use lib.ListN.{length}
use borrow.Author.Tests.{lt-ltb}
use Rattle.base.specs.Out.{done}
use Rattle.base.specs.Parts.{paste}
use Rattle.arena.specs.Blocks.{blk, put_blk, blocks}
use Rattle.arena.specs.Fields.{File, seal, fresh}
use Rattle.arena.specs.Places.{free_of, free_count}
use Rattle.files.specs.Read.{there}
use Rattle.files.specs.Store.{longest, claim, write_blk, put_block, put_to, touched, put_file}
use Rattle.files_laws.specs.Laws.{lacking}
use Rattle.files_laws.proofs.Put.{put-upto, put_next, put-finds, put_all, put-more}
use Rattle.chains.specs.Led.{block_at}
use Rattle.plans.proofs.Plans.{block-there, block-gone}

-- ---- one block

module _ (d : List ℕ) (f : File) (q off : ℕ) (src : List ℕ) (c : ℕ) (is : c ≡ block_at d f q) where
  -- one that is there
  pub write-old : (e : List ℕ) → 0 < c → e ≡ put_blk d (c - 1) (seal (paste (blk d (c - 1)) (24 + off) src)) → write_blk d f q off src ≡ done e
  unfolding write_blk
  write-old e l h = let b = block-there d f q c is l in rw (b.0, b.1) (ap done (sym h))

  -- a new one
  pub write_new : (e : List ℕ) (k : ℕ) → c ≡ 0 → k ≡ free_of d → k < blocks d → e ≡ put_blk d k (seal (paste (fresh 2 f q) (24 + off) src)) → write_blk d f q off src ≡ done e
  unfolding write_blk claim
  write_new e k z at l h = rw (block-gone d f q c is z, ← at, lt-ltb k (blocks d) l) (ap done (sym h))

-- ---- block by block

module _ (a : List ℕ) (f : File) (pos : ℕ) (src : List ℕ) (was : there a f ≡ true) (range : pos + length src ≤ longest) where
  module _ (i : ℕ) (d : List ℕ) (l : i < touched pos (length src)) (e : put_to a f pos src i ≡ done d) where
    -- where the free blocks are enough, there is one for a block that has to be made
    pub put-room : lacking a f pos (length src) ≤ free_count a → (c : ℕ) → c ≡ block_at d f (pos / 480 + i) → c ≡ 0 → free_of d < blocks d
    put-room room c is z = put-finds a f pos src was range i d room l (put-upto a f pos src was range i d (omega arith) e) (block-gone d f (pos / 480 + i) c is z)

    pub put-turn : (b : List ℕ) (from : ℕ) → put_block d f pos src (pos / 480 + i) ≡ done b → from ≤ free_of d → (put_to a f pos src (i + 1) ≡ done b) × (from ≤ free_of b)
    put-turn b from h k = (put-more a f pos src i d e ∙ h, omega (arith, (put_next a f pos src was range i d b l e h).used))

  pub put_whole : (i : ℕ) (d : List ℕ) → i ≡ touched pos (length src) → put_to a f pos src i ≡ done d → put_file a f pos src ≡ done d
  put_whole i d h e = put_all a f pos src was range ∙ ap (put_to a f pos src) (sym h) ∙ e
