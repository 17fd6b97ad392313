-- The arena that format starts from: zeros alone. It is sound, every block is free, and no file is there.
use mathlib.Core.Path.{◌≡◌, sym, ap, ◌∙◌, subst}
use mathlib.Core.Bool.{true, false}
use mathlib.Core.List.{List}
use Prim.Native.Nat.{ℕ, ◌+◌, ◌*◌, ◌<◌}
use native.Mathlib.Omega.{arith}
use lib.ListN.{get_or, replicate}
use Rattle.base.specs.Count.{bit, count_to}
use Rattle.base.proofs.Counts.{sum_to-cong, sum_to-one}
use Rattle.base.proofs.Parts.{get_or-zero-list}
use Rattle.le.specs.Le.{Bytes}
use Rattle.arena.specs.Blocks.{blk, blocks}
use Rattle.arena.specs.Fields.{File, tag_of, is_free}
use Rattle.arena.specs.Places.{free_count}
use Rattle.arena.proofs.Blocks.{length-blk, get_or-blk}
use Rattle.arena.proofs.Fields.{free_own, head-not}
use Rattle.arena.proofs.Fresh.{zeros-is}
use Rattle.sound.specs.Sound.{sound}
use Rattle.sound.proofs.Sounds.{BlockSound, zeros-sound, sound-of}
use Rattle.files.specs.Read.{there}
use Rattle.files_laws.proofs.Views.{there-none}

abbrev pub zero_arena : ℕ → List ℕ
zero_arena n = replicate n 0

module _ (n : ℕ) where
  abbrev z : List ℕ
  z = zero_arena n

  pub zero-bytes : Bytes (zero_arena n)
  zero-bytes i = rw (get_or-zero-list n i) (omega arith)

  byte-zero : (k i : ℕ) → i < 512 → get_or (blk z k) i 0 ≡ 0
  byte-zero k i l = get_or-blk z k i l ∙ get_or-zero-list n (512 * k + i)

  tag-zero : (k : ℕ) → tag_of (blk z k) ≡ 0
  tag-zero k = byte-zero k 0 (omega arith)

  pub zero-sound : sound (zero_arena n) ≡ true
  zero-sound =
      sound-of z (λ k l. record {
        block = subst BlockSound (sym (zeros-is (blk z k) (length-blk z k l) (byte-zero k))) zeros-sound;
        one-head = λ e. absurd (omega (arith, tag-zero k));
        one_number = λ e. absurd (omega (arith, tag-zero k));
        under = λ e. absurd (omega (arith, tag-zero k));
      })

  pub zero-none : (f : File) → there (zero_arena n) f ≡ false
  zero-none f = there-none z f (λ k l. head-not f (blk z k) (λ e. absurd (omega (arith, tag-zero k))))

  pub zero-free : free_count (zero_arena n) ≡ blocks (zero_arena n)
  unfolding free_count count_to
  zero-free = sum_to-cong (λ k. bit (is_free (blk z k))) (λ k. 1) (blocks z) (λ k l. ap bit (free_own (blk z k) (tag-zero k))) ∙ sum_to-one (blocks z)
