-- What `sound` says of each block, and what it takes.
use mathlib.Core.Path.{◌≡◌, refl, sym, ap, ap₂, ◌∙◌, subst}
use mathlib.Core.Bool.{true, false, not, ◌||◌}
use mathlib.Core.List.{List}
use mathlib.Core.Logic.{◌≢◌}
use Prim.Native.Nat.{ℕ, ◌+◌, ◌*◌, ◌-◌, ◌≤◌, ◌<◌}
use native.Mathlib.Omega.{arith}
use lib.Dec.{eqb}
use lib.ListN.{length, get_or, drop, length-take, length-drop}
use borrow.Author.Tests.{ne_eqb, lt-ltb, le-ltb}
use Rattle.base.proofs.Sames.{decides-both, decides-unless, and-true}
use Rattle.base.specs.Decides.{Decides}
use Rattle.base.specs.Parts.{part}
use Rattle.base.proofs.Bools.{T_true, true-T}
use Rattle.base.proofs.Lists.{get_d_part}
use Rattle.base.proofs.Tests.{decides-iff, decides_eqb, decides_ltb, decides_and, decides-if, decides-all, decides-every}
use Rattle.arena.specs.Blocks.{blk, blocks}
use Rattle.arena.specs.Fields.{tag_of, which_of, number_of, file_of, is_free, check_of, stored_check, zeros}
use Rattle.arena.specs.Places.{head_of, data_of}
use Rattle.arena.proofs.Blocks.{length-blk}
use Rattle.arena.proofs.Fresh.{get_or-zeros, zeros-is}
use Rattle.arena.proofs.Seals.{zeros-right}
use Rattle.sound.specs.Sound.{all_zero, layout, block_sound, head_once, data_once, within, under, sound_at, sound}

-- ---- zeros

pub decides-zeros : (l : List ℕ) → Decides (all_zero l) ((i : ℕ) → i < length l → get_or l i 0 ≡ 0)
unfolding all_zero
decides-zeros l = decides-every 0 (λ x. eqb x 0) (λ x. x ≡ 0) (λ x. decides_eqb x 0) l

-- a part of a list
pub decides-zero-part : (b : List ℕ) (s e : ℕ) → e ≤ length b → Decides (all_zero (part b s e)) ((i : ℕ) → s ≤ i → i < e → get_or b i 0 ≡ 0)
decides-zero-part b s e h =
    decides-iff
    (λ f i g l.
    let q : s + (i - s) ≡ i = omega arith in
    ap (λ (x : ℕ). get_or b x 0) (sym q) ∙ sym (get_d_part b s e (i - s) (omega arith)) ∙ f (i - s) (simp (length-take, length-drop) (omega arith)))
    (λ f i l.
    let k : i < e - s = omega (arith, length-take (e - s) (drop s b)) in
    get_d_part b s e i k ∙ f (s + i) (omega arith) (omega arith))
    (decides-zeros (part b s e))

-- ---- a block by itself

pub record BlockSound (b : List ℕ) : Type 0 where
  pub tag : tag_of b < 3
  pub which : which_of b < 2
  pub pad : (i : ℕ) → 2 ≤ i → i < 4 → get_or b i 0 ≡ 0
  pub name : which_of b ≢ 1 → (i : ℕ) → 4 ≤ i → i < 20 → get_or b i 0 ≡ 0
  pub payload : tag_of b ≢ 2 → (i : ℕ) → 24 ≤ i → i < 504 → get_or b i 0 ≡ 0
  pub end : (i : ℕ) → 504 ≤ i → i < 508 → get_or b i 0 ≡ 0
  pub check : stored_check b ≡ check_of b
  pub free : tag_of b ≡ 0 → b ≡ zeros

decides-free : (b : List ℕ) → length b ≡ 512 → Decides (not (is_free b) || all_zero b) (tag_of b ≡ 0 → b ≡ zeros)
unfolding is_free
decides-free b s =
    decides-if (decides_eqb (tag_of b) 0)
    (decides-iff (λ f. zeros-is b s (λ j l. f j (omega arith))) (λ e i l. ap (λ (x : List ℕ). get_or x i 0) e ∙ get_or-zeros i) (decides-zeros b))

pub decides-block : (b : List ℕ) → length b ≡ 512 → Decides (block_sound b) (BlockSound b)
unfolding block_sound layout
decides-block b s =
    decides-iff
    (λ p. record {
      tag = p.0.0;
      which = p.0.1.0;
      pad = p.0.1.1.0;
      name = p.0.1.1.1.0;
      payload = p.0.1.1.1.1.0;
      end = p.0.1.1.1.1.1.0;
      check = p.0.1.1.1.1.1.1;
      free = p.1;
    })
    (λ B. ((B.tag, (B.which, (B.pad, (B.name, (B.payload, (B.end, B.check)))))), B.free))
    (decides_and
    (decides_and (decides_ltb (tag_of b) 3)
    (decides_and (decides_ltb (which_of b) 2)
    (decides_and (decides-zero-part b 2 4 (omega arith))
    (decides_and (decides-unless (decides_eqb (which_of b) 1) (decides-zero-part b 4 20 (omega arith)))
    (decides_and (decides-unless (decides_eqb (tag_of b) 2) (decides-zero-part b 24 504 (omega arith)))
    (decides_and (decides-zero-part b 504 508 (omega arith)) (decides_eqb (stored_check b) (check_of b))))))))
    (decides-free b s))

-- ---- a data block against the length of its file

pub record Within (b : List ℕ) (len : ℕ) : Type 0 where
  pub below : 480 * number_of b < len
  pub tail : (i : ℕ) → i < 480 → len ≤ 480 * number_of b + i → get_or b (24 + i) 0 ≡ 0

tail-in : (q len j : ℕ) → 480 * q < len → 24 + (len - 480 * q) ≤ j → j < 504 → (24 + (j - 24) ≡ j) × (j - 24 < 480) × (len ≤ 480 * q + (j - 24))
tail-in q len j l g h = (omega arith, omega arith, omega arith)

tail_from : (q len i : ℕ) → len ≤ 480 * q + i → 24 + (len - 480 * q) ≤ 24 + i
tail_from q len i h = omega arith

pub decides-within : (b : List ℕ) (len : ℕ) → length b ≡ 512 → Decides (within b len) (Within b len)
unfolding within
decides-within b len s =
    decides-iff
    (λ p. record { below = p.0; tail = λ i l g. p.1 (24 + i) (tail_from (number_of b) len i g) (omega arith) })
    (λ W. (W.below, λ j g l. let t = tail-in (number_of b) len j W.below g l in ap (λ (x : ℕ). get_or b x 0) (sym t.0) ∙ W.tail (j - 24) t.1 t.2))
    (decides_and (decides_ltb (480 * number_of b) len) (decides-zero-part b (24 + (len - 480 * number_of b)) 504 (omega arith)))

-- ---- a block among the others

-- a data block b under its head
pub record Under (a b : List ℕ) : Type 0 where
  pub there : head_of a (file_of b) < blocks a
  pub inside : Within b (number_of (blk a (head_of a (file_of b))))

pub record SoundAt (a : List ℕ) (k : ℕ) : Type 0 where
  pub block : BlockSound (blk a k)
  pub one-head : tag_of (blk a k) ≡ 1 → head_of a (file_of (blk a k)) ≡ k
  pub one_number : tag_of (blk a k) ≡ 2 → data_of a (file_of (blk a k)) (number_of (blk a k)) ≡ k
  pub under : tag_of (blk a k) ≡ 2 → Under a (blk a k)

pub decides_at : (a : List ℕ) (k : ℕ) → k < blocks a → Decides (sound_at a k) (SoundAt a k)
unfolding sound_at head_once data_once under
decides_at a k l =
    let b : List ℕ = blk a k in
    let s : length (blk a k) ≡ 512 = length-blk a k l in
    decides-iff
    (λ p. record { block = p.0; one-head = p.1.0; one_number = p.1.1.0; under = λ t. record { there = (p.1.1.1 t).0; inside = (p.1.1.1 t).1 } })
    (λ S. (S.block, (S.one-head, (S.one_number, λ t. ((S.under t).there, (S.under t).inside)))))
    (decides_and (decides-block b s)
    (decides_and (decides-if (decides_eqb (tag_of b) 1) (decides_eqb (head_of a (file_of b)) k))
    (decides_and (decides-if (decides_eqb (tag_of b) 2) (decides_eqb (data_of a (file_of b) (number_of b)) k))
    (decides-if (decides_eqb (tag_of b) 2)
    (decides_and (decides_ltb (head_of a (file_of b)) (blocks a)) (decides-within b (number_of (blk a (head_of a (file_of b)))) s))))))

-- ---- the whole arena

pub decides-sound : (a : List ℕ) → Decides (sound a) ((k : ℕ) → k < blocks a → SoundAt a k)
unfolding sound
decides-sound a = decides-all (blocks a) (λ k. sound_at a k) (SoundAt a) (decides_at a)

-- what soundness says of each block
pub sound-at : (a : List ℕ) → sound a ≡ true → (k : ℕ) → k < blocks a → SoundAt a k
sound-at a e = (decides-sound a).right (true-T (sound a) e)

-- and what it takes
pub sound-of : (a : List ℕ) → ((k : ℕ) → k < blocks a → SoundAt a k) → sound a ≡ true
sound-of a h = T_true (sound a) ((decides-sound a).left h)

-- ---- blocks as the code tests them

-- a block of zeros is sound
pub zeros-sound : BlockSound zeros
zeros-sound = record {
  tag = rw (get_or-zeros 0) (omega arith);
  which = rw (get_or-zeros 1) (omega arith);
  pad = λ i g l. get_or-zeros i;
  name = λ n i g l. get_or-zeros i;
  payload = λ n i g l. get_or-zeros i;
  end = λ i g l. get_or-zeros i;
  check = zeros-right;
  free = λ e. refl;
}

-- a block that says that it is free
pub free-sound : (b : List ℕ) → length b ≡ 512 → tag_of b ≡ 0 → block_sound b ≡ all_zero b
free-sound b s t =
    decides-both (decides-block b s)
    (decides-iff
    (λ f. subst BlockSound (sym (zeros-is b s (λ j l. f j (omega arith)))) zeros-sound)
    (λ B i l. ap (λ (x : List ℕ). get_or x i 0) (B.free t) ∙ get_or-zeros i)
    (decides-zeros b))

-- and one that says that it is used
pub used_sound : (b : List ℕ) → tag_of b ≢ 0 → block_sound b ≡ layout b
unfolding block_sound is_free
used_sound b n = rw (ne_eqb (tag_of b) 0 n) (and-true (layout b))

-- a data block past the length, one wholly below it, and one in between, with q and n the numbers as the code has them
module _ (b : List ℕ) (len : ℕ) {q n : ℕ} (eq : q ≡ number_of b) (en : n ≡ len) where
  pub within-far : n ≤ 480 * q → false ≡ within b len
  unfolding within
  within-far h = rw (le-ltb (480 * number_of b) len (omega arith)) refl

  pub within-full : 480 * q < n → 480 ≤ n - 480 * q → true ≡ within b len
  unfolding within
  within-full h g =
      rw (lt-ltb (480 * number_of b) len (omega arith))
      (sym (T_true _ ((decides-zeros (part b (24 + (len - 480 * number_of b)) 504)).left (λ i l. absurd (omega (arith, length-take (504 - (24 + (len - 480 * number_of b))) (drop (24 + (len - 480 * number_of b)) b)))))))

  pub within-tail : 480 * q < n → all_zero (part b (24 + (n - 480 * q)) 504) ≡ within b len
  unfolding within
  within-tail h =
      rw (lt-ltb (480 * number_of b) len (omega arith)) (ap₂ (λ (x y : ℕ). all_zero (part b (24 + (x - 480 * y)) 504)) en eq)
