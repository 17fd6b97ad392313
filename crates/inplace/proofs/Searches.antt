-- Searches over the arena's blocks: the lowest free one from a place on, and what the answer says of a file's block.
use mathlib.Core.Path.{◌≡◌, sym, ap, ◌∙◌}
use mathlib.Core.Bool.{true, false}
use mathlib.Core.List.{List}
use Prim.Native.Nat.{ℕ, ◌+◌, ◌-◌, ◌/◌, ◌%◌, ◌≤◌, ◌<◌}
use native.Mathlib.Decide.{ℕ_discrete}
use native.Mathlib.Omega.{arith}
use lib.ListN.{replicate}
use borrow.Author.Tests.{lt-ltb, le-ltb}
use Rattle.base.specs.Parts.{paste}
use Rattle.base.proofs.Bools.{true-false}
use Rattle.base.proofs.Searches.{lowest-at-most}
use Rattle.arena.specs.Blocks.{blk, put_blk, blocks}
use Rattle.arena.specs.Fields.{File, is_free, seal}
use Rattle.arena.specs.Places.{free_of, data_of}
use Rattle.arena.proofs.Places.{free-first}
use Rattle.files.specs.Read.{present}
use Rattle.files.specs.Store.{zero_tail}

module _ (a : List ℕ) (k : ℕ) (low : k ≤ free_of a) where
  pub free-here : k < blocks a → is_free (blk a k) ≡ true → k ≡ free_of a
  unfolding free_of
  free-here l e = omega (arith, lowest-at-most (λ j. is_free (blk a j)) (blocks a) k l e)

  pub free-later : k < blocks a → is_free (blk a k) ≡ false → k + 1 ≤ free_of a
  free-later l e = elim (ℕ_discrete k (free_of a)) [
    | yes q ↦ absurd (true-false ((free-first a).hit (omega arith)) (ap (λ (j : ℕ). is_free (blk a j)) (sym q) ∙ e))
    | no q ↦ omega arith
  ]

  pub free-none : blocks a ≤ k → blocks a ≡ free_of a
  free-none l = omega (arith, (free-first a).most)

-- the tail of a file's block, absent or there
module _ (a : List ℕ) (f : File) (len k : ℕ) (e : k ≡ data_of a f (len / 480)) where
  pub tail_none : blocks a ≤ k → a ≡ zero_tail a f len
  unfolding zero_tail present
  tail_none l = rw (le-ltb (data_of a f (len / 480)) (blocks a) (omega arith))

  pub tail-cleared : k < blocks a → put_blk a k (seal (paste (blk a k) (24 + len % 480) (replicate (480 - len % 480) 0))) ≡ zero_tail a f len
  unfolding zero_tail present
  tail-cleared l = rw (lt-ltb (data_of a f (len / 480)) (blocks a) (omega arith), e)
