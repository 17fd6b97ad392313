-- One block replaced: what that changes of any file.
use mathlib.Core.Path.{◌≡◌, sym, ap, ◌∙◌, subst}
use mathlib.Core.Bool.{Bool, true, false}
use mathlib.Core.List.{List}
use mathlib.Core.Logic.{⊎_elim, ◌⊎◌, ◌≢◌}
use Prim.Native.Nat.{ℕ, ◌+◌, ◌<◌}
use native.Mathlib.Decide.{ℕ_discrete}
use native.Mathlib.Omega.{arith}
use lib.ListN.{length, get_or, get_or-eq_default}
use Rattle.base.proofs.Sames.{test-fails}
use Rattle.base.proofs.Parts.{part-all}
use Rattle.base.specs.Count.{count_to}
use Rattle.base.proofs.Bools.{true-false}
use Rattle.base.proofs.Counts.{count_to-cong}
use Rattle.base.proofs.Lists.{length_part, get_d_part}
use Rattle.base.proofs.Numbers.{lt-or-le}
use Rattle.le.specs.Le.{Bytes}
use Rattle.arena.specs.Blocks.{blk, put_blk, blocks}
use Rattle.arena.specs.Fields.{File, tag_of, which_of, name_of, file_of, is_head, is_data, zeros}
use Rattle.arena.specs.Places.{head_of}
use Rattle.arena.proofs.Blocks.{length-blk, blk-bytes, blocks-put_blk, blk-put_blk-same, blk-put_blk-other}
use Rattle.arena.proofs.Fields.{head-is, head-not, data_is, data-not}
use Rattle.arena.proofs.Fresh.{get_or-zeros}
use Rattle.arena.proofs.Places.{test-put_blk}
use Rattle.sound.proofs.Sounds.{BlockSound}
use Rattle.files.specs.Read.{there}
use Rattle.files_laws.specs.Laws.{Named, Kept}
use Rattle.files_laws.proofs.Views.{Alike, alike-own, kept_of, there-at, there-hit}
use Rattle.files_laws.proofs.Parts.{Once, Tidy}

-- ---- blocks of other files

-- a block that says nothing of file g
pub record Stranger (g : File) (b : List ℕ) : Type 0 where
  pub head : is_head g b ≡ false
  pub block : (q : ℕ) → is_data g q b ≡ false

pub free-stranger : (g : File) (b : List ℕ) → tag_of b ≡ 0 → Stranger g b
free-stranger g b t = record { head = head-not g b (λ e. absurd (omega arith)); block = λ q. data-not g q b (λ e. absurd (omega arith)) }

pub zeros-stranger : (g : File) → Stranger g zeros
zeros-stranger g = free-stranger g zeros (get_or-zeros 0)

pub other-stranger : (f g : File) (b : List ℕ) → file_of b ≡ f → f ≢ g → Stranger g b
other-stranger f g b e n = record {
  head = test-fails (is_head g b) (λ h. n (sym e ∙ (head-is g b h).of));
  block = λ q. test-fails (is_data g q b) (λ h. n (sym e ∙ (data_is g q b h).of));
}

pub strangers-alike : {g : File} {b c : List ℕ} → Stranger g b → Stranger g c → Alike g b c
strangers-alike S T = record {
  head = record { head = S.head ∙ sym T.head; number = λ e. absurd (true-false e T.head) };
  block = λ q. record { block = S.block q ∙ sym (T.block q); payload = λ e. absurd (true-false e (T.block q)) };
}

-- a free block, or one of file f
abbrev pub Near : File → List ℕ → Type 0
Near f b = (tag_of b ≡ 0) ⊎ (file_of b ≡ f)

pub near-stranger : (f g : File) (b : List ℕ) → Near f b → f ≢ g → Stranger g b
near-stranger f g b e n = ⊎_elim (λ t. free-stranger g b t) (λ h. other-stranger f g b h n) e

-- ---- block k replaced by b

module _ (a : List ℕ) (k : ℕ) (b : List ℕ) (in-a : k < blocks a) (size : length b ≡ 512) where
  -- what relates the new block to the old one, and each block to itself, relates all
  pub put-each : (P : List ℕ → List ℕ → Type 0) → P b (blk a k) → ((c : List ℕ) → P c c) → (j : ℕ) → P (blk (put_blk a k b) j) (blk a j)
  put-each P e own j = elim (ℕ_discrete j k) [
    | yes h ↦ subst (λ (i : ℕ). P (blk (put_blk a k b) i) (blk a i)) (sym h) (subst (λ (c : List ℕ). P c (blk a k)) (sym (blk-put_blk-same a k b in-a size)) e)
    | no h ↦ subst (λ (c : List ℕ). P c (blk a j)) (sym (blk-put_blk-other a k b in-a size j h)) (own (blk a j))
  ]

  pub put-kept : (g : File) → Alike g b (blk a k) → Kept a (put_blk a k b) g
  put-kept g A = kept_of a (put_blk a k b) (blocks-put_blk a k b in-a size) g (λ j _. put-each (Alike g) A (alike-own g) j)

  -- a block of file f, or a free one, by another: all other files stay
  pub put-others : (f : File) → Near f b → Near f (blk a k) → (g : File) → f ≢ g → Kept a (put_blk a k b) g
  put-others f m n g ne = put-kept g (strangers-alike (near-stranger f g b m ne) (near-stranger f g (blk a k) n ne))

  -- as many pass a test that says the same of both
  pub put_count : (P : List ℕ → Bool) → P b ≡ P (blk a k) → count_to (λ j. P (blk (put_blk a k b) j)) (blocks (put_blk a k b)) ≡ count_to (λ j. P (blk a j)) (blocks a)
  put_count P e =
      ap (count_to (λ j. P (blk (put_blk a k b) j))) (blocks-put_blk a k b in-a size)
      ∙ count_to-cong (λ j. P (blk (put_blk a k b) j)) (λ j. P (blk a j)) (blocks a) (λ j _. test-put_blk a k b in-a size P e j)

  -- one alone passes a test, if the new block doesn't pass it, or no other does
  put-once : (P : List ℕ → Bool) → (P b ≡ true → (j : ℕ) → j < blocks a → P (blk a j) ≡ true → j ≡ k) → Once P a → Once P (put_blk a k b)
  put-once P alone O i j li lj pi pj =
      let n : blocks (put_blk a k b) ≡ blocks a = blocks-put_blk a k b in-a size in
      elim (ℕ_discrete i k) [
        | yes e ↦ elim (ℕ_discrete j k) [
          | yes h ↦ e ∙ sym h
          | no h ↦ e ∙ sym (alone (here i e pi) j (omega arith) (old j h pj))
        ]
        | no e ↦ elim (ℕ_discrete j k) [
          | yes h ↦ alone (here j h pj) i (omega arith) (old i e pi) ∙ sym h
          | no h ↦ O i j (omega arith) (omega arith) (old i e pi) (old j h pj)
        ]
      ]
    where
      here : (x : ℕ) → x ≡ k → P (blk (put_blk a k b) x) ≡ true → P b ≡ true
      here x e p = sym (ap P (ap (blk (put_blk a k b)) e ∙ blk-put_blk-same a k b in-a size)) ∙ p

      old : (x : ℕ) → x ≢ k → P (blk (put_blk a k b) x) ≡ true → P (blk a x) ≡ true
      old x e p = sym (ap P (blk-put_blk-other a k b in-a size x e)) ∙ p

  pub put-tidy : BlockSound b
      → ((g : File) → is_head g b ≡ true → (j : ℕ) → j < blocks a → is_head g (blk a j) ≡ true → j ≡ k)
      → ((g : File) (q : ℕ) → is_data g q b ≡ true → (j : ℕ) → j < blocks a → is_data g q (blk a j) ≡ true → j ≡ k)
      → Tidy a → Tidy (put_blk a k b)
  put-tidy B h d T = record {
    each = λ j l. elim (ℕ_discrete j k) [
      | yes e ↦ subst BlockSound (sym (ap (blk (put_blk a k b)) e ∙ blk-put_blk-same a k b in-a size)) B
      | no e ↦ subst BlockSound (sym (blk-put_blk-other a k b in-a size j e)) (T.each j (let n : blocks (put_blk a k b) ≡ blocks a = blocks-put_blk a k b in-a size in omega arith))
    ];
    head = λ g. put-once (is_head g) (h g) (T.head g);
    block = λ g q. put-once (is_data g q) (d g q) (T.block g q);
  }

  -- the new block is of the same file and number
  pub put-tidy-same : BlockSound b → ((g : File) → is_head g b ≡ is_head g (blk a k)) → ((g : File) (q : ℕ) → is_data g q b ≡ is_data g q (blk a k)) → Tidy a → Tidy (put_blk a k b)
  put-tidy-same B h d T =
      put-tidy B
      (λ g e j l p. T.head g j k l in-a p (sym (h g) ∙ e))
      (λ g q e j l p. T.block g q j k l in-a p (sym (d g q) ∙ e))
      T

-- ---- the name of a file that is there

module _ (a : List ℕ) (f : File) (was : there a f ≡ true) where
  is : file_of (blk a (head_of a f)) ≡ f
  is = (head-is f (blk a (head_of a f)) (there-hit a f was)).of

  name-is : name_of (blk a (head_of a f)) ≡ f.name
  name-is = ap (λ (g : File). g.name) is

  which-is : which_of (blk a (head_of a f)) ≡ f.which
  which-is = ap (λ (g : File). g.which) is

  size-512 : length (blk a (head_of a f)) ≡ 512
  size-512 = length-blk a (head_of a f) (there-at a f was)

  pub name-size : length f.name ≡ 16
  name-size = sym (ap length name-is) ∙ length_part (blk a (head_of a f)) 4 20 (omega arith) (omega (arith, size-512))

  pub name-bytes : Bytes a → Bytes f.name
  name-bytes h = subst Bytes name-is (part-all (λ x. x < 256) (blk a (head_of a f)) (omega arith) (blk-bytes a (head_of a f) h) 4 20)

  pub name-which : Bytes a → f.which < 256
  name-which h = subst (λ (x : ℕ). x < 256) which-is (blk-bytes a (head_of a f) h 1)

  pub name-good : Bytes a → Tidy a → Named f
  name-good h T =
      let B = T.each (head_of a f) (there-at a f was) in
      record {
        kind = subst (λ (x : ℕ). x < 2) which-is B.which;
        size = name-size;
        bytes = name-bytes h;
        zero = λ n i. ⊎_elim
            (λ l. ap (λ (x : List ℕ). get_or x i 0) (sym name-is) ∙ get_d_part (blk a (head_of a f)) 4 20 i (omega arith) ∙ B.name (λ e. n (sym which-is ∙ e)) (4 + i) (omega arith) (omega arith))
            (λ g. get_or-eq_default f.name 0 {n = i} (omega (arith, name-size)))
            (lt-or-le i 16);
      }
