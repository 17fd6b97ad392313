-- A free block becomes a new one: the lowest free block, and bytes laid over a new data block of a file that is there.
use mathlib.Core.Path.{◌≡◌, sym, ap, ◌∙◌, subst}
use mathlib.Core.Bool.{Bool, true, false, not}
use mathlib.Core.List.{List}
use mathlib.Core.Logic.{⊎_elim, inl, inr, ◌≢◌}
use Prim.Native.Nat.{ℕ, ◌+◌, ◌≤◌, ◌<◌}
use native.Mathlib.Decide.{ℕ_discrete}
use native.Mathlib.Omega.{arith}
use lib.ListN.{length, get_or}
use Rattle.base.proofs.Finds.{count_to-some}
use Rattle.base.proofs.Sames.{test-fails}
use Rattle.base.specs.Count.{bit}
use Rattle.base.specs.Parts.{paste}
use Rattle.base.proofs.Counts.{count_to-none}
use Rattle.base.proofs.Bools.{true-false}
use Rattle.base.proofs.Numbers.{lt-or-le}
use Rattle.le.specs.Le.{Bytes}
use Rattle.arena.specs.Blocks.{blk, put_blk, blocks}
use Rattle.arena.specs.Fields.{File, tag_of, is_free, is_head, is_data, seal, fresh}
use Rattle.arena.specs.Places.{free_of, data_of, free_count}
use Rattle.arena.proofs.Blocks.{length-put_blk, blocks-put_blk, blk-put_blk-same, blk-put_blk-other, put_blk-bytes}
use Rattle.arena.proofs.Fields.{head-not, data_is, data-not, free-is, free-not, data-cong}
use Rattle.arena.proofs.Fresh.{length-fresh, fresh-tag, fresh-rest, fresh-bytes, fresh-data}
use Rattle.arena.proofs.Places.{free-first, count-put_blk}
use Rattle.files.specs.Read.{there, present}
use Rattle.files_laws.proofs.Views.{alike-own, byte_in, AlikeHead, AlikeData, present-of, present-not, data-at, byte-here, byte-none, heads-same, datas-same, there-same, length-same, present-same, byte-same}
use Rattle.files_laws.proofs.Shapes.{shaped_fresh, length-written, written-24, written_in, written_out, written-bytes, written-sound}
use Rattle.files_laws.proofs.Steps.{put-each, put-others, put-tidy, name-size, name-bytes, name-which, name-good}
use Rattle.files_laws.proofs.Writes.{Wrote}

-- no block is free
pub none_free : (a : List ℕ) → blocks a ≤ free_of a → free_count a ≡ 0
unfolding free_count
none_free a g = count_to-none (λ k. is_free (blk a k)) (blocks a) (λ k l. (free-first a).before k (omega arith))

pub some-free : (a : List ℕ) → free_of a < blocks a → 0 < free_count a
unfolding free_count
some-free a l = count_to-some (λ k. is_free (blk a k)) (blocks a) (free_of a) l ((free-first a).hit l)

-- the lowest free block lies above blocks in use
free-above : (a : List ℕ) (n : ℕ) → n ≤ blocks a → ((j : ℕ) → j < n → is_free (blk a j) ≡ false) → n ≤ free_of a
free-above a n l used = ⊎_elim (λ h. absurd (true-false ((free-first a).hit (omega arith)) (used (free_of a) h))) (λ g. g) (lt-or-le (free_of a) n)

module _ (a : List ℕ) (room : free_of a < blocks a) where
  pub tag_free : tag_of (blk a (free_of a)) ≡ 0
  tag_free = free-is (blk a (free_of a)) ((free-first a).hit room)

  pub free-head : (g : File) → is_head g (blk a (free_of a)) ≡ false
  free-head g = head-not g (blk a (free_of a)) (λ e. absurd (omega (arith, tag_free)))

  pub free-data : (g : File) (q : ℕ) → is_data g q (blk a (free_of a)) ≡ false
  free-data g q = data-not g q (blk a (free_of a)) (λ e. absurd (omega (arith, tag_free)))

  pub free-fewer : (b : List ℕ) → length b ≡ 512 → tag_of b ≢ 0 → free_count (put_blk a (free_of a) b) + 1 ≡ free_count a
  free-fewer b size used =
      let x : bit (is_free (blk a (free_of a))) ≡ 1 = ap bit ((free-first a).hit room) in
      let y : bit (is_free b) ≡ 0 = ap bit (free-not b used) in
      omega (arith, count-put_blk a (free_of a) b room size)

-- bytes in a new block of a file that is there
module _ (a : List ℕ) (f : File) (q off : ℕ) (src : List ℕ) (was : there a f ≡ true) (gone : present a f q ≡ false) (room : free_of a < blocks a)
    (fits : off + length src ≤ 480) (small : q < 4294967296) where
  abbrev k : ℕ
  k = free_of a

  abbrev blank : List ℕ
  blank = fresh 2 f q

  abbrev new : List ℕ
  new = seal (paste blank (24 + off) src)

  abbrev c : List ℕ
  c = put_blk a k new

  size-fresh : length blank ≡ 512
  size-fresh = length-fresh 2 f q (name-size a f was)

  size-made : length new ≡ 512
  size-made = length-written blank off src size-fresh fits

  made-24 : (j : ℕ) → j < 24 → get_or new j 0 ≡ get_or blank j 0
  made-24 = written-24 blank off src size-fresh fits

  hit-made : is_data f q new ≡ true
  hit-made = data-cong new blank size-made size-fresh made-24 f q ∙ fresh-data f q (name-size a f was) small

  tag-made : tag_of new ≡ 2
  tag-made = (data_is f q new hit-made).tag

  no-head : (g : File) → is_head g new ≡ false
  no-head g = head-not g new (λ e. absurd (omega (arith, tag-made)))

  blocks-made : blocks c ≡ blocks a
  blocks-made = blocks-put_blk a k new room size-made

  head-made : (j : ℕ) → AlikeHead f (blk c j) (blk a j)
  head-made =
      put-each a k new room size-made (AlikeHead f)
      (record { head = no-head f ∙ sym (free-head a room f); number = λ e. absurd (true-false e (free-head a room f)) })
      (λ b. (alike-own f b).head)

  -- it is block q of file f and of no other
  sole : (g : File) (r : ℕ) → is_data g r new ≡ true → (f ≡ g) × (q ≡ r)
  sole g r e =
      let D = data_is g r new e in
      let E = data_is f q new hit-made in
      (sym E.of ∙ D.of, sym E.number ∙ D.number)

  data-made : (r : ℕ) → r ≢ q → (j : ℕ) → AlikeData f r (blk c j) (blk a j)
  data-made r ne =
      put-each a k new room size-made (AlikeData f r)
      (record { block = test-fails (is_data f r new) (λ e. ne (sym (sole f r e).1)) ∙ sym (free-data a room f r); payload = λ e. absurd (true-false e (free-data a room f r)) })
      (λ b. (alike-own f b).block r)

  at-made : is_data f q (blk c k) ≡ true
  at-made = ap (is_data f q) (blk-put_blk-same a k new room size-made) ∙ hit-made

  here-made : present c f q ≡ true
  here-made = present-of c f q k (omega (arith, blocks-made, room)) at-made

  place-made : data_of c f q ≡ k
  place-made =
      data-at c f q k (omega (arith, blocks-made, room))
      (λ j l. ap (is_data f q) (blk-put_blk-other a k new room size-made j (omega arith)) ∙ present-not a f q gone j (omega (arith, room)))
      at-made

  byte-made : (i : ℕ) → byte_in c f q i ≡ get_or new (24 + i) 0
  byte-made i =
      byte-here c f q here-made i
      ∙ ap (λ (j : ℕ). get_or (blk c j) (24 + i) 0) place-made
      ∙ ap (λ (b : List ℕ). get_or b (24 + i) 0) (blk-put_blk-same a k new room size-made)

  pub wrote-new : Wrote a (put_blk a (free_of a) (seal (paste (fresh 2 f q) (24 + off) src))) f q off src
  wrote-new = record {
    size = length-put_blk a k new room size-made;
    bytes = λ h s. put_blk-bytes a k new room size-made h (written-bytes blank off src size-fresh fits (bytes-fresh h) s);
    tidy = λ h s T.
        put-tidy a k new room size-made
        (written-sound blank off src size-fresh fits (bytes-fresh h) s (fresh-tag 2 f q (name-size a f was))
        (shaped_fresh 2 f q (name-good a f was h T) (λ e. absurd (omega arith)) (omega arith)))
        (λ g e. absurd (true-false e (no-head g)))
        (λ g r e j l p. absurd (true-false (subst (λ (n : ℕ). is_data f n (blk a j) ≡ true) (sym (sole g r e).1) (subst (λ (h : File). is_data h r (blk a j) ≡ true) (sym (sole g r e).0) p)) (present-not a f q gone j l)))
        T;
    free = count_less;
    exists = there-same a c blocks-made f (λ j _. (head-made j).head);
    long = length-same a c blocks-made f (λ j _. head-made j);
    here = here-made;
    rest = λ r ne. present-same a c blocks-made f r (λ j _. (data-made r ne j).block);
    inside = λ i g l. byte-made i ∙ written_in blank off src size-fresh fits i g l;
    outside = λ i l h.
        byte-made i ∙ written_out blank off src size-fresh fits i l h
        ∙ fresh-rest 2 f q (name-size a f was) (24 + i) (omega arith) (λ _. omega arith) ∙ sym (byte-none a f q gone i);
    apart = λ r i ne l. byte-same a c blocks-made f r (λ j _. data-made r ne j) i l;
    others = put-others a k new room size-made f (inr (data_is f q new hit-made).of) (inl (tag_free a room));
    head = heads-same a c blocks-made f (λ j _. (head-made j).head);
    place = λ r ne. datas-same a c blocks-made f r (λ j _. (data-made r ne j).block);
    used = used-more;
  }
    where
      used-at : (j : ℕ) → j < k + 1 → is_free (blk c j) ≡ false
      used-at j l = elim (ℕ_discrete j k) [
        | yes e ↦ ap (λ (i : ℕ). is_free (blk c i)) e ∙ ap is_free (blk-put_blk-same a k new room size-made) ∙ free-not new (λ e. absurd (omega (arith, tag-made)))
        | no e ↦ ap is_free (blk-put_blk-other a k new room size-made j e) ∙ (free-first a).before j (omega arith)
      ]

      used-more : free_of a + bit (not (present a f q)) ≤ free_of c
      used-more =
          let z : bit (not (present a f q)) ≡ 1 = ap (λ (t : Bool). bit (not t)) gone in
          omega (arith, free-above c (k + 1) (omega (arith, blocks-made, room)) used-at)

      bytes-fresh : Bytes a → Bytes blank
      bytes-fresh h = fresh-bytes 2 f q (name-size a f was) (omega arith) (name-which a f was h) (name-bytes a f was h)

      count_less : free_count c + bit (not (present a f q)) ≡ free_count a
      count_less =
          let z : bit (not (present a f q)) ≡ 1 = ap (λ (t : Bool). bit (not t)) gone in
          omega (arith, free-fewer a room new size-made (λ e. absurd (omega (arith, tag-made))))
