-- What a file is, from the blocks of the arena: two arenas whose blocks say the same of a file have the same file.
use mathlib.Core.Path.{◌≡◌, refl, sym, ap, ap₂, ◌∙◌}
use mathlib.Core.Bool.{true, false}
use mathlib.Core.List.{List}
use mathlib.Core.Logic.{⊎_elim}
use Prim.Native.Nat.{ℕ, ◌+◌, ◌/◌, ◌%◌, ◌≤◌, ◌<◌}
use native.Mathlib.Omega.{arith}
use lib.ListN.{get_or}
use lib.Dec.{ltb}
use borrow.Author.Tests.{lt-ltb, le-ltb, ltb-true, ltb-false}
use Rattle.base.specs.Search.{lowest, pick}
use Rattle.base.proofs.Bools.{bool_cases}
use Rattle.base.proofs.Searches.{lowest-cong, lowest-here, lowest-none, lowest-at-most}
use Rattle.arena.specs.Blocks.{blk, blocks}
use Rattle.arena.specs.Fields.{File, number_of, is_head, is_data}
use Rattle.arena.specs.Places.{head_of, data_of}
use Rattle.arena.proofs.Places.{head_first, data-first}
use Rattle.files.specs.Read.{there, length_of, present, byte_at}
use Rattle.files_laws.specs.Laws.{Kept}

-- byte i of block q of file g
abbrev pub byte_in : List ℕ → File → ℕ → ℕ → ℕ
byte_in a g q i = pick (present a g q) (get_or (blk a (data_of a g q)) (24 + i) 0) 0

-- ---- one arena

module _ (a : List ℕ) (g : File) where
  pub there-at : there a g ≡ true → head_of a g < blocks a
  unfolding there
  there-at e = ltb-true (head_of a g) (blocks a) e

  pub there-hit : there a g ≡ true → is_head g (blk a (head_of a g)) ≡ true
  there-hit e = (head_first a g).hit (there-at e)

  pub there-of : (k : ℕ) → k < blocks a → is_head g (blk a k) ≡ true → there a g ≡ true
  unfolding there head_of
  there-of k l e = let m : head_of a g ≤ k = lowest-at-most (λ j. is_head g (blk a j)) (blocks a) k l e in lt-ltb (head_of a g) (blocks a) (omega arith)

  pub there-not : there a g ≡ false → (k : ℕ) → k < blocks a → is_head g (blk a k) ≡ false
  unfolding there
  there-not e k l = let m : blocks a ≤ head_of a g = ltb-false (head_of a g) (blocks a) e in (head_first a g).before k (omega arith)

  pub there-none : ((k : ℕ) → k < blocks a → is_head g (blk a k) ≡ false) → there a g ≡ false
  unfolding there head_of
  there-none h = le-ltb (head_of a g) (blocks a) (let e : blocks a ≡ head_of a g = lowest-none (λ j. is_head g (blk a j)) (blocks a) h in omega arith)

  pub length-here : there a g ≡ true → length_of a g ≡ number_of (blk a (head_of a g))
  unfolding length_of
  length-here e = rw e refl

  pub length_none : there a g ≡ false → length_of a g ≡ 0
  unfolding length_of
  length_none e = rw e refl

  -- the lowest head is at k
  pub head_at_lem : (k : ℕ) → k < blocks a → ((j : ℕ) → j < k → is_head g (blk a j) ≡ false) → is_head g (blk a k) ≡ true → head_of a g ≡ k
  unfolding head_of
  head_at_lem k l before hit = sym (lowest-here (λ j. is_head g (blk a j)) (blocks a) k l before hit)

  pub byte-in : (p : ℕ) → byte_at a g p ≡ byte_in a g (p / 480) (p % 480)
  unfolding byte_at
  byte-in p = refl

  module _ (q : ℕ) where
    pub present-at : present a g q ≡ true → data_of a g q < blocks a
    unfolding present
    present-at e = ltb-true (data_of a g q) (blocks a) e

    pub present-hit : present a g q ≡ true → is_data g q (blk a (data_of a g q)) ≡ true
    present-hit e = (data-first a g q).hit (present-at e)

    pub present-of : (k : ℕ) → k < blocks a → is_data g q (blk a k) ≡ true → present a g q ≡ true
    unfolding present data_of
    present-of k l e = let m : data_of a g q ≤ k = lowest-at-most (λ j. is_data g q (blk a j)) (blocks a) k l e in lt-ltb (data_of a g q) (blocks a) (omega arith)

    pub present-not : present a g q ≡ false → (k : ℕ) → k < blocks a → is_data g q (blk a k) ≡ false
    unfolding present
    present-not e k l = let m : blocks a ≤ data_of a g q = ltb-false (data_of a g q) (blocks a) e in (data-first a g q).before k (omega arith)

    pub present-none : ((k : ℕ) → k < blocks a → is_data g q (blk a k) ≡ false) → present a g q ≡ false
    unfolding present data_of
    present-none h = le-ltb (data_of a g q) (blocks a) (let e : blocks a ≡ data_of a g q = lowest-none (λ j. is_data g q (blk a j)) (blocks a) h in omega arith)

    -- the lowest block q is at k
    pub data-at : (k : ℕ) → k < blocks a → ((j : ℕ) → j < k → is_data g q (blk a j) ≡ false) → is_data g q (blk a k) ≡ true → data_of a g q ≡ k
    unfolding data_of
    data-at k l before hit = sym (lowest-here (λ j. is_data g q (blk a j)) (blocks a) k l before hit)

    pub byte-here : present a g q ≡ true → (i : ℕ) → byte_in a g q i ≡ get_or (blk a (data_of a g q)) (24 + i) 0
    byte-here e i = rw e refl

    pub byte-none : present a g q ≡ false → (i : ℕ) → byte_in a g q i ≡ 0
    byte-none e i = rw e refl

-- ---- two arenas, block by block

-- b and c say the same of file g's head
pub record AlikeHead (g : File) (b c : List ℕ) : Type 0 where
  pub head : is_head g b ≡ is_head g c
  pub number : is_head g c ≡ true → number_of b ≡ number_of c

-- and of its block q
pub record AlikeData (g : File) (q : ℕ) (b c : List ℕ) : Type 0 where
  pub block : is_data g q b ≡ is_data g q c
  pub payload : is_data g q c ≡ true → (i : ℕ) → i < 480 → get_or b (24 + i) 0 ≡ get_or c (24 + i) 0

-- and all of it
pub record Alike (g : File) (b c : List ℕ) : Type 0 where
  pub head : AlikeHead g b c
  pub block : (q : ℕ) → AlikeData g q b c

pub alike-own : (g : File) (b : List ℕ) → Alike g b b
alike-own g b = record { head = record { head = refl; number = λ _. refl }; block = λ q. record { block = refl; payload = λ _ i l. refl } }

module _ (a a' : List ℕ) (size : blocks a' ≡ blocks a) (g : File) where
  -- the heads
  pub heads-same : ((k : ℕ) → k < blocks a → is_head g (blk a' k) ≡ is_head g (blk a k)) → head_of a' g ≡ head_of a g
  unfolding head_of
  heads-same h = ap (lowest (λ k. is_head g (blk a' k))) size ∙ lowest-cong (λ k. is_head g (blk a' k)) (λ k. is_head g (blk a k)) (blocks a) h

  pub there-same : ((k : ℕ) → k < blocks a → is_head g (blk a' k) ≡ is_head g (blk a k)) → there a' g ≡ there a g
  unfolding there
  there-same h = ap₂ ltb (heads-same h) size

  pub length-same : ((k : ℕ) → k < blocks a → AlikeHead g (blk a' k) (blk a k)) → length_of a' g ≡ length_of a g
  length-same h =
      let e : head_of a' g ≡ head_of a g = heads-same (λ k l. (h k l).head) in
      let t : there a' g ≡ there a g = there-same (λ k l. (h k l).head) in
      ⊎_elim
      (λ y. length-here a' g (t ∙ y) ∙ ap (λ (k : ℕ). number_of (blk a' k)) e ∙ (h (head_of a g) (there-at a g y)).number (there-hit a g y) ∙ sym (length-here a g y))
      (λ n. length_none a' g (t ∙ n) ∙ sym (length_none a g n))
      (bool_cases (there a g))

  module _ (q : ℕ) where
    pub datas-same : ((k : ℕ) → k < blocks a → is_data g q (blk a' k) ≡ is_data g q (blk a k)) → data_of a' g q ≡ data_of a g q
    unfolding data_of
    datas-same h = ap (lowest (λ k. is_data g q (blk a' k))) size ∙ lowest-cong (λ k. is_data g q (blk a' k)) (λ k. is_data g q (blk a k)) (blocks a) h

    pub present-same : ((k : ℕ) → k < blocks a → is_data g q (blk a' k) ≡ is_data g q (blk a k)) → present a' g q ≡ present a g q
    unfolding present
    present-same h = ap₂ ltb (datas-same h) size

    pub byte-same : ((k : ℕ) → k < blocks a → AlikeData g q (blk a' k) (blk a k)) → (i : ℕ) → i < 480 → byte_in a' g q i ≡ byte_in a g q i
    byte-same h i m =
        let e : data_of a' g q ≡ data_of a g q = datas-same (λ k l. (h k l).block) in
        let t : present a' g q ≡ present a g q = present-same (λ k l. (h k l).block) in
        ⊎_elim
        (λ y. byte-here a' g q (t ∙ y) i ∙ ap (λ (k : ℕ). get_or (blk a' k) (24 + i) 0) e
        ∙ (h (data_of a g q) (present-at a g q y)).payload (present-hit a g q y) i m ∙ sym (byte-here a g q y i))
        (λ n. byte-none a' g q (t ∙ n) i ∙ sym (byte-none a g q n i))
        (bool_cases (present a g q))

  -- the whole file
  pub kept_of : ((k : ℕ) → k < blocks a → Alike g (blk a' k) (blk a k)) → Kept a a' g
  kept_of h = record {
    exists = there-same (λ k l. (h k l).head.head);
    long = length-same (λ k l. (h k l).head);
    block = λ q. present-same q (λ k l. ((h k l).block q).block);
    byte = λ p. byte-in a' g p ∙ byte-same (p / 480) (λ k l. (h k l).block (p / 480)) (p % 480) (omega arith) ∙ sym (byte-in a g p);
  }

-- ---- a chain of changes

pub kept_refl : (a : List ℕ) (g : File) → Kept a a g
kept_refl a g = record { exists = refl; long = refl; block = λ q. refl; byte = λ p. refl }

pub kept_next : {a b c : List ℕ} {g : File} → Kept a b g → Kept b c g → Kept a c g
kept_next K L = record {
  exists = L.exists ∙ K.exists;
  long = L.long ∙ K.long;
  block = λ q. L.block q ∙ K.block q;
  byte = λ p. L.byte p ∙ K.byte p;
}
