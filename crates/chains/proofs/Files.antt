-- The chains lead to the one block that has a key, which in a sound arena is the lowest that has it: what is read there is what the file holds.
use mathlib.Core.Path.{◌≡◌, refl, sym, ap, ◌∙◌}
use mathlib.Core.Bool.{true, false}
use mathlib.Core.List.{List}
use mathlib.Core.Logic.{⊎_elim}
use Prim.Native.Nat.{ℕ, suc, ◌+◌, ◌*◌, ◌-◌, ◌/◌, ◌%◌, ◌≤◌, ◌<◌}
use native.Mathlib.Omega.{arith}
use lib.ListN.{length, get_or, replicate}
use lib.Seq.{ext_get_or}
use Rattle.base.specs.Parts.{part, tab}
use Rattle.base.specs.Search.{last, pick}
use Rattle.base.proofs.Lists.{length_part, get_d_part, length-tab, get_or-tab, tab-zeros, tab-cong}
use Rattle.base.proofs.Numbers.{lt-or-le}
use Rattle.base.proofs.Searches.{last-is}
use Rattle.arena.specs.Blocks.{blk, blocks}
use Rattle.arena.specs.Fields.{File, number_of}
use Rattle.arena.specs.Places.{head_of, data_of}
use Rattle.sound.specs.Sound.{sound}
use Rattle.sound.specs.Chain.{is_key}
use Rattle.files.specs.Read.{there, length_of, present, byte_at}
use Rattle.files_laws.proofs.Views.{byte_in, byte-in, there-at, there-hit, there-of, there-none, length-here, present-at, present-hit, present-of, present-none, byte-here, byte-none}
use Rattle.files_laws.proofs.Parts.{sound-tidy}
use Rattle.chains.specs.Led.{head_at, block_at}

-- n bytes of a file from pos on
abbrev pub run : List ℕ → File → ℕ → ℕ → List ℕ
run a f pos n = tab (byte_at a f) pos n

-- a block ends in the arena
pub block-end : (a : List ℕ) (k : ℕ) → k < blocks a → 512 * k + 512 ≤ length a
block-end a k l = omega arith

-- ---- heads

module _ (a : List ℕ) (ok : sound a ≡ true) (f : File) (c : ℕ) (is : c ≡ last (λ j. is_key true f 0 (blk a j)) (blocks a)) where
  head-found : 0 < c → (there a f ≡ true) × (head_of a f ≡ c - 1)
  head-found pos =
      let L = last-is (λ j. is_key true f 0 (blk a j)) (blocks a) in
      let l : c - 1 < blocks a = omega (arith, L.most) in
      let e = L.hit (c - 1) (omega arith) in
      let t : there a f ≡ true = there-of a f (c - 1) l e in
      (t, (sound-tidy a ok).head f (head_of a f) (c - 1) (there-at a f t) l (there-hit a f t) e)

  head-missing : c ≡ 0 → there a f ≡ false
  head-missing z = there-none a f (λ k l. (last-is (λ j. is_key true f 0 (blk a j)) (blocks a)).after k (omega arith) l)

  pub head-is : c ≡ head_at a f
  head-is = ⊎_elim (λ l. let h = head-found l in rw h.0 (omega (arith, h.1))) (λ z. rw (head-missing (omega arith)) (omega arith)) (lt-or-le 0 c)

  pub length_found : 0 < c → number_of (blk a (c - 1)) + 1 ≡ pick (there a f) (suc (length_of a f)) 0
  length_found pos =
      let h = head-found pos in
      let n : length_of a f ≡ number_of (blk a (c - 1)) = length-here a f h.0 ∙ ap (λ (k : ℕ). number_of (blk a k)) h.1 in
      rw h.0 (omega (arith, n))

  pub length-missing : c ≡ 0 → 0 ≡ pick (there a f) (suc (length_of a f)) 0
  length-missing z = rw (head-missing z) refl

-- ---- data blocks

-- bytes p and p + i lie in one block
same_block : (p i : ℕ) → p % 480 + i < 480 → (p + i) / 480 ≡ p / 480
same_block p i l = omega arith

same_rest : (p i : ℕ) → p % 480 + i < 480 → (p + i) % 480 ≡ p % 480 + i
same_rest p i l = omega arith

module _ (a : List ℕ) (ok : sound a ≡ true) (f : File) (q c : ℕ) (is : c ≡ last (λ j. is_key false f q (blk a j)) (blocks a)) where
  block-found : 0 < c → (c - 1 < blocks a) × ((present a f q ≡ true) × (data_of a f q ≡ c - 1))
  block-found pos =
      let L = last-is (λ j. is_key false f q (blk a j)) (blocks a) in
      let l : c - 1 < blocks a = omega (arith, L.most) in
      let e = L.hit (c - 1) (omega arith) in
      let t : present a f q ≡ true = present-of a f q (c - 1) l e in
      (l, (t, (sound-tidy a ok).block f q (data_of a f q) (c - 1) (present-at a f q t) l (present-hit a f q t) e))

  block-missing : c ≡ 0 → present a f q ≡ false
  block-missing z = present-none a f q (λ k l. (last-is (λ j. is_key false f q (blk a j)) (blocks a)).after k (omega arith) l)

  pub block-is : c ≡ block_at a f q
  block-is = ⊎_elim (λ l. let h = block-found l in rw h.1.0 (omega (arith, h.1.1))) (λ z. rw (block-missing (omega arith)) (omega arith)) (lt-or-le 0 c)

module _ (a : List ℕ) (ok : sound a ≡ true) (f : File) (p n c : ℕ) (fits : p % 480 + n ≤ 480) (is : c ≡ last (λ j. is_key false f (p / 480) (blk a j)) (blocks a)) where
  byte-is : (i : ℕ) → i < n → byte_at a f (p + i) ≡ byte_in a f (p / 480) (p % 480 + i)
  byte-is i l = byte-in a f (p + i) ∙ (λ x. byte_in a f (same_block p i (omega arith) x) (same_rest p i (omega arith) x))

  pub part-found : (s : ℕ) → 0 < c → s ≡ 512 * (c - 1) + 24 + p % 480 → part a s (s + n) ≡ run a f p n
  unfolding blk
  part-found s pos at =
      let B = block-found a ok f (p / 480) c is pos in
      let l : c - 1 < blocks a = B.0 in
      let t : present a f (p / 480) ≡ true = B.1.0 in
      let d : data_of a f (p / 480) ≡ c - 1 = B.1.1 in
      let size : length (part a s (s + n)) ≡ n = length_part a s (s + n) (omega arith) (omega (arith, block-end a (c - 1) l)) ∙ omega arith in
      ext_get_or 0 _ _ (size ∙ sym (length-tab (byte_at a f) p n))
      (λ i h.
      let m : i < n = omega (arith, size) in
      let j : s + i ≡ 512 * (c - 1) + (24 + (p % 480 + i)) = omega arith in
      get_d_part a s (s + n) i (omega arith)
      ∙ ap (λ (x : ℕ). get_or a x 0) j
      ∙ sym (get_d_part a (512 * (c - 1)) (512 * (c - 1) + 512) (24 + (p % 480 + i)) (omega arith))
      ∙ ap (λ (x : ℕ). get_or (blk a x) (24 + (p % 480 + i)) 0) (sym d)
      ∙ sym (byte-here a f (p / 480) t (p % 480 + i))
      ∙ sym (byte-is i m)
      ∙ sym (get_or-tab (byte_at a f) p n i m))

  pub part-missing : c ≡ 0 → replicate n 0 ≡ run a f p n
  part-missing z =
      let t : present a f (p / 480) ≡ false = block-missing a ok f (p / 480) c is z in
      sym (tab-zeros p n) ∙ tab-cong (λ i. 0) (byte_at a f) p p n (λ i h. sym (byte-is i h ∙ byte-none a f (p / 480) t (p % 480 + i)))

-- ---- a run

pub run_long : (a : List ℕ) (f : File) (pos n k : ℕ) (l : List ℕ) → n ≡ k → l ≡ run a f pos n → l ≡ run a f pos k
run_long a f pos n k l e q = q ∙ ap (run a f pos) e
