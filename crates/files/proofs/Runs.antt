-- Reading: the bytes of one block of a file, and the answer of a read.
use mathlib.Core.Path.{◌≡◌, sym, ap, ap₂, ◌∙◌}
use mathlib.Core.Bool.{true, false}
use mathlib.Core.List.{List}
use Prim.Native.Nat.{ℕ, ◌+◌, ◌≤◌, ◌<◌, ◌/◌, ◌%◌}
use native.Mathlib.Omega.{arith}
use lib.ListN.{length, get_or, replicate}
use lib.Seq.{ext_get_or}
use borrow.Author.Tests.{le-leb, lt-leb}
use Rattle.base.specs.Out.{done, refused}
use Rattle.base.specs.Parts.{part, tab}
use Rattle.base.proofs.Lists.{length_part, get_d_part, length-tab, get_or-tab, tab-zeros, tab-cong}
use Rattle.arena.specs.Blocks.{blk, blocks}
use Rattle.arena.specs.Fields.{File}
use Rattle.arena.specs.Places.{data_of}
use Rattle.overlay.specs.View.{blk_of, view, Fine}
use Rattle.overlay.proofs.Views.{blk-view, length-blk_of}
use Rattle.files.specs.Read.{there, length_of, byte_at, read_file}
use Rattle.files.proofs.Finds.{present-yes, present-no}

-- bytes p and p + i lie in one block
same_block : (p i : ℕ) → p % 480 + i < 480 → (p + i) / 480 ≡ p / 480
same_block p i l = omega arith

same_rest : (p i : ℕ) → p % 480 + i < 480 → (p + i) % 480 ≡ p % 480 + i
same_rest p i l = omega arith

module _ (a w : List ℕ) (F : Fine a w) (f : File) (p k n : ℕ) (e : k ≡ data_of (view a w) f (p / 480)) (fits : p % 480 + n ≤ 480) where
  -- the bytes of a block that is there
  pub read-block : k < blocks a → part (blk_of a w k) (24 + p % 480) (24 + p % 480 + n) ≡ tab (byte_at (view a w) f) p n
  unfolding byte_at
  read-block l =
      let lp : length (part (blk_of a w k) (24 + p % 480) (24 + p % 480 + n)) ≡ n = length_part (blk_of a w k) (24 + p % 480) (24 + p % 480 + n) (omega arith) (omega (arith, length-blk_of a w F k l)) ∙ omega arith in
      ext_get_or 0 _ _ (lp ∙ sym (length-tab (byte_at (view a w) f) p n))
      (λ i h.
      let b : i < n = omega (arith, lp) in
      let s : 24 + p % 480 + i ≡ 24 + (p % 480 + i) = omega arith in
      get_d_part (blk_of a w k) (24 + p % 480) (24 + p % 480 + n) i (omega arith)
      ∙ ap₂ (λ (x : List ℕ) (j : ℕ). get_or x j 0) (sym (blk-view a w F k l) ∙ ap (blk (view a w)) e) s
      ∙ sym (get_or-tab (byte_at (view a w) f) p n i b ∙ rw (same_block p i (omega arith), same_rest p i (omega arith), present-yes a w F f (p / 480) k e l)))

  -- "An absent block reads as zeros."
  pub read-zeros : blocks a ≤ k → replicate n 0 ≡ tab (byte_at (view a w) f) p n
  unfolding byte_at
  read-zeros l =
      sym (tab-zeros p n)
      ∙ tab-cong (λ i. 0) (byte_at (view a w) f) p p n (λ i h. sym (rw (same_block p i (omega arith), present-no a w F f (p / 480) k e l)))

-- ---- the answer of a read

module _ (v : List ℕ) (f : File) (pos n : ℕ) where
  pub read-missing : there v f ≡ false → read_file v f pos n ≡ refused 19
  unfolding read_file
  read-missing e = rw e

  pub read_short : there v f ≡ true → length_of v f < pos + n → read_file v f pos n ≡ refused 19
  unfolding read_file
  read_short e l = rw (e, lt-leb (pos + n) (length_of v f) l)

  pub read_done : there v f ≡ true → pos + n ≤ length_of v f → read_file v f pos n ≡ done (tab (byte_at v f) pos n)
  unfolding read_file
  read_done e l = rw (e, le-leb (pos + n) (length_of v f) l)
