-- Soundness in two parts: blocks that are sound by themselves with no two for one thing, and files that end at their length.
use mathlib.Core.Path.{◌≡◌, refl, sym, ap, ap₂, ◌∙◌, subst}
use mathlib.Core.Bool.{Bool, true, false}
use mathlib.Core.List.{List}
use mathlib.Core.Logic.{⊎_elim, ◌⊎◌, inl, inr, ◌≢◌}
use Prim.Native.Nat.{ℕ, ◌+◌, ◌*◌, ◌/◌, ◌%◌, ◌≤◌, ◌<◌}
use native.Mathlib.Omega.{arith}
use lib.ListN.{get_or}
use Rattle.base.proofs.Bools.{bool_cases, true-false}
use Rattle.arena.specs.Blocks.{blk, blocks}
use Rattle.arena.specs.Fields.{File, same_file, tag_of, number_of, file_of, is_head, is_data}
use Rattle.arena.specs.Places.{head_of, data_of}
use Rattle.arena.proofs.Fields.{same_file-true, same_file-own, head-is, head-own, data_is, data-own}
use Rattle.arena.proofs.Places.{head_first}
use Rattle.sound.specs.Sound.{sound}
use Rattle.sound.proofs.Sounds.{BlockSound, Within, Under, SoundAt, sound-at, sound-of}
use Rattle.files.specs.Read.{there, length_of, present}
use Rattle.files_laws.specs.Laws.{Kept, Inside}
use Rattle.files_laws.proofs.Views.{byte_in, byte-in, there-at, there-hit, there-of, length-here, present-at, present-hit, present-of, byte-here, byte-none}

-- no two blocks pass the test
abbrev pub Once : (List ℕ → Bool) → List ℕ → Type 0
Once P a = (j k : ℕ) → j < blocks a → k < blocks a → P (blk a j) ≡ true → P (blk a k) ≡ true → j ≡ k

-- every block is sound by itself, a file has one head, and a number of it one block
pub record Tidy (a : List ℕ) : Type 0 where
  pub each : (k : ℕ) → k < blocks a → BlockSound (blk a k)
  pub head : (g : File) → Once (is_head g) a
  pub block : (g : File) (q : ℕ) → Once (is_data g q) a

module _ (a : List ℕ) (ok : sound a ≡ true) where
  at : (k : ℕ) → k < blocks a → SoundAt a k
  at = sound-at a ok

  head-only : (g : File) (k : ℕ) → k < blocks a → is_head g (blk a k) ≡ true → head_of a g ≡ k
  head-only g k l e = let H = head-is g (blk a k) e in ap (head_of a) (sym H.of) ∙ (at k l).one-head H.tag

  data-only : (g : File) (q k : ℕ) → k < blocks a → is_data g q (blk a k) ≡ true → data_of a g q ≡ k
  data-only g q k l e = let D = data_is g q (blk a k) e in ap₂ (data_of a) (sym D.of) (sym D.number) ∙ (at k l).one_number D.tag

  pub sound-tidy : Tidy a
  sound-tidy = record {
    each = λ k l. (at k l).block;
    head = λ g j k m l e f. sym (head-only g j m e) ∙ head-only g k l f;
    block = λ g q j k m l e f. sym (data-only g q j m e) ∙ data-only g q k l f;
  }

  -- a data block under its file's head
  beneath : (g : File) (q : ℕ) → present a g q ≡ true → (there a g ≡ true) × Within (blk a (data_of a g q)) (length_of a g) × (number_of (blk a (data_of a g q)) ≡ q)
  beneath g q e =
      let k : ℕ = data_of a g q in
      let D = data_is g q (blk a k) (present-hit a g q e) in
      let U = (at k (present-at a g q e)).under D.tag in
      let U' : Under a (blk a k) = U in
      let l : head_of a g < blocks a = subst (λ (f : File). head_of a f < blocks a) D.of U'.there in
      let t : there a g ≡ true = there-of a g (head_of a g) l (hit g l) in
      (t, subst (Within (blk a k)) (ap (λ (f : File). number_of (blk a (head_of a f))) D.of ∙ sym (length-here a g t)) U'.inside, D.number)
    where
      hit : (f : File) → head_of a f < blocks a → is_head f (blk a (head_of a f)) ≡ true
      hit f l = (head_first a f).hit l

  pub sound-inside : (g : File) → Inside a g
  sound-inside g = record {
    under = λ q e. let B = beneath g q e in (B.0, subst (λ (n : ℕ). 480 * n < length_of a g) B.2 B.1.below);
    past = λ p h. byte-in a g p ∙ ⊎_elim
        (λ e. let B = beneath g (p / 480) e in
        byte-here a g (p / 480) e (p % 480) ∙ B.1.tail (p % 480) (omega arith) (subst (λ (n : ℕ). length_of a g ≤ 480 * n + p % 480) (sym B.2) (omega arith)))
        (λ e. byte-none a g (p / 480) e (p % 480))
        (bool_cases (present a g (p / 480)));
  }

-- and the two parts make a sound arena
pub sound-whole : (a : List ℕ) → Tidy a → ((g : File) → Inside a g) → sound a ≡ true
sound-whole a T I = sound-of a (λ k l. whole k l)
  where
    whole : (k : ℕ) → k < blocks a → SoundAt a k
    whole k l =
        record {
          block = T.each k l;
          one-head = λ t.
              let e : is_head (file_of (blk a k)) (blk a k) ≡ true = head-own (file_of (blk a k)) (blk a k) (record { tag = t; of = refl }) in
              let h : there a (file_of (blk a k)) ≡ true = there-of a (file_of (blk a k)) k l e in
              T.head (file_of (blk a k)) (head_of a (file_of (blk a k))) k (there-at a (file_of (blk a k)) h) l (there-hit a (file_of (blk a k)) h) e;
          one_number = λ t. number k l t;
          under = λ t.
              let h = present-of a (file_of (blk a k)) (number_of (blk a k)) k l (own k t) in
              let u = (I (file_of (blk a k))).under (number_of (blk a k)) h in
              record {
                there = there-at a (file_of (blk a k)) u.0;
                inside = subst (Within (blk a k)) (length-here a (file_of (blk a k)) u.0) (record {
                  below = u.1;
                  tail = λ i m p.
                      let x : ℕ = 480 * number_of (blk a k) + i in
                      let d : x / 480 ≡ number_of (blk a k) = omega arith in
                      let r : x % 480 ≡ i = omega arith in
                      ap (λ (j : ℕ). get_or (blk a j) (24 + i) 0) (sym (number k l t))
                      ∙ sym (byte-here a (file_of (blk a k)) (number_of (blk a k)) h i)
                      ∙ ap₂ (byte_in a (file_of (blk a k))) (sym d) (sym r)
                      ∙ sym (byte-in a (file_of (blk a k)) x)
                      ∙ (I (file_of (blk a k))).past x p;
                });
              };
        }
      where
        own : (k : ℕ) → tag_of (blk a k) ≡ 2 → is_data (file_of (blk a k)) (number_of (blk a k)) (blk a k) ≡ true
        own k t = data-own (file_of (blk a k)) (number_of (blk a k)) (blk a k) (record { tag = t; number = refl; of = refl })

        number : (k : ℕ) → k < blocks a → tag_of (blk a k) ≡ 2 → data_of a (file_of (blk a k)) (number_of (blk a k)) ≡ k
        number k l t =
            let h = present-of a (file_of (blk a k)) (number_of (blk a k)) k l (own k t) in
            T.block (file_of (blk a k)) (number_of (blk a k)) (data_of a (file_of (blk a k)) (number_of (blk a k))) k
            (present-at a (file_of (blk a k)) (number_of (blk a k)) h) l (present-hit a (file_of (blk a k)) (number_of (blk a k)) h) (own k t)

-- in a sound arena a file that is not there has no blocks
pub no_blocks : (a : List ℕ) (g : File) → Inside a g → there a g ≡ false → (q : ℕ) → present a g q ≡ false
no_blocks a g I n q = ⊎_elim (λ e. absurd (true-false (I.under q e).0 n)) (λ e. e) (bool_cases (present a g q))

-- ---- after a store

pub file-cases : (f g : File) → (f ≡ g) ⊎ (f ≢ g)
file-cases f g = ⊎_elim (λ e. inl (same_file-true f g e)) (λ e. inr (λ h. true-false (same_file-own f g h) e)) (bool_cases (same_file f g))

pub inside-kept : (a c : List ℕ) (g : File) → Kept a c g → Inside a g → Inside c g
inside-kept a c g K I = record {
  under = λ q e. let u = I.under q (sym (K.block q) ∙ e) in (K.exists ∙ u.0, subst (λ (n : ℕ). 480 * q < n) (sym K.long) u.1);
  past = λ p l. K.byte p ∙ I.past p (subst (λ (n : ℕ). n ≤ p) K.long l);
}

-- tidy blocks, one file that ends at its length, and the others as they were
pub sound-after : (a c : List ℕ) (f : File) → sound a ≡ true → Tidy c → Inside c f → ((g : File) → f ≢ g → Kept a c g) → sound c ≡ true
sound-after a c f ok T I others =
    sound-whole c T (λ g. ⊎_elim (λ (e : f ≡ g). subst (Inside c) e I) (λ n. inside-kept a c g (others g n) (sound-inside a ok g)) (file-cases f g))
