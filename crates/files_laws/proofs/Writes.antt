-- Bytes are laid over a part of a block of a file that is there.
use mathlib.Core.Path.{◌≡◌, sym, ap, ◌∙◌}
use mathlib.Core.Bool.{Bool, true, not}
use mathlib.Core.List.{List}
use mathlib.Core.Logic.{inr, ◌≢◌}
use Prim.Native.Nat.{ℕ, ◌+◌, ◌-◌, ◌≤◌, ◌<◌}
use native.Mathlib.Omega.{arith}
use lib.ListN.{length, get_or}
use Rattle.base.specs.Count.{bit}
use Rattle.base.specs.Parts.{paste}
use Rattle.le.specs.Le.{Bytes}
use Rattle.arena.specs.Blocks.{blk, put_blk, blocks}
use Rattle.arena.specs.Fields.{File, tag_of, file_of, is_free, is_head, is_data, seal}
use Rattle.arena.specs.Places.{free_of, head_of, data_of, free_count}
use Rattle.arena.proofs.Blocks.{length-blk, blk-bytes, length-put_blk, blocks-put_blk, blk-put_blk-same, put_blk-bytes}
use Rattle.arena.proofs.Fields.{data_is, number-cong, file-cong, free-cong, head-cong, data-cong}
use Rattle.arena.proofs.Places.{data-first, test-put_blk, lowest-put_blk, count-put_blk}
use Rattle.files.specs.Read.{there, length_of, present}
use Rattle.files_laws.specs.Laws.{Kept}
use Rattle.files_laws.proofs.Views.{alike-own, byte_in, AlikeHead, AlikeData, present-at, present-hit, data-at, byte-here, heads-same, datas-same, there-same, length-same, present-same, byte-same}
use Rattle.files_laws.proofs.Parts.{Tidy}
use Rattle.files_laws.proofs.Shapes.{shaped_of, length-written, written-24, written_in, written_out, written-bytes, written-sound}
use Rattle.files_laws.proofs.Steps.{put-each, put-others, put-tidy-same}

-- src was laid over block q from off on
pub record Wrote (a a' : List ℕ) (f : File) (q off : ℕ) (src : List ℕ) : Type 0 where
  pub size : length a' ≡ length a
  pub bytes : Bytes a → Bytes src → Bytes a'
  pub tidy : Bytes a → Bytes src → Tidy a → Tidy a'
  pub free : free_count a' + bit (not (present a f q)) ≡ free_count a
  pub exists : there a' f ≡ there a f
  pub long : length_of a' f ≡ length_of a f
  pub here : present a' f q ≡ true
  pub rest : (r : ℕ) → r ≢ q → present a' f r ≡ present a f r
  pub inside : (i : ℕ) → off ≤ i → i < off + length src → byte_in a' f q i ≡ get_or src (i - off) 0
  pub outside : (i : ℕ) → i < 480 → (off ≤ i → off + length src ≤ i) → byte_in a' f q i ≡ byte_in a f q i
  pub apart : (r i : ℕ) → r ≢ q → i < 480 → byte_in a' f r i ≡ byte_in a f r i
  pub others : (g : File) → f ≢ g → Kept a a' g
  -- where things are: the head and the other blocks stay in their places, and what lies below the lowest free block stays in use
  pub head : head_of a' f ≡ head_of a f
  pub place : (r : ℕ) → r ≢ q → data_of a' f r ≡ data_of a f r
  pub used : free_of a + bit (not (present a f q)) ≤ free_of a'

-- in the block that is there
module _ (a : List ℕ) (f : File) (q off : ℕ) (src : List ℕ) (was : present a f q ≡ true) (fits : off + length src ≤ 480) where
  abbrev k : ℕ
  k = data_of a f q

  abbrev old : List ℕ
  old = blk a k

  abbrev new : List ℕ
  new = seal (paste old (24 + off) src)

  abbrev c : List ℕ
  c = put_blk a k new

  put-at : k < blocks a
  put-at = present-at a f q was

  size-was : length old ≡ 512
  size-was = length-blk a k put-at

  hit-was : is_data f q old ≡ true
  hit-was = present-hit a f q was

  tag-was : tag_of old ≡ 2
  tag-was = (data_is f q old hit-was).tag

  file-was : file_of old ≡ f
  file-was = (data_is f q old hit-was).of

  size-new : length new ≡ 512
  size-new = length-written old off src size-was fits

  same-24 : (j : ℕ) → j < 24 → get_or new j 0 ≡ get_or old j 0
  same-24 = written-24 old off src size-was fits

  heads-new : (g : File) → is_head g new ≡ is_head g old
  heads-new = head-cong new old size-new size-was same-24

  datas-new : (g : File) (r : ℕ) → is_data g r new ≡ is_data g r old
  datas-new = data-cong new old size-new size-was same-24

  blocks-new : blocks c ≡ blocks a
  blocks-new = blocks-put_blk a k new put-at size-new

  head-each : (j : ℕ) → AlikeHead f (blk c j) (blk a j)
  head-each =
      put-each a k new put-at size-new (AlikeHead f)
      (record { head = heads-new f; number = λ _. number-cong new old size-new size-was same-24 })
      (λ b. (alike-own f b).head)

  data-each : (r j : ℕ) → is_data f r (blk c j) ≡ is_data f r (blk a j)
  data-each r = test-put_blk a k new put-at size-new (is_data f r) (datas-new f r)

  present-after : (r : ℕ) → present c f r ≡ present a f r
  present-after r = present-same a c blocks-new f r (λ j _. data-each r j)

  apart-each : (r : ℕ) → r ≢ q → (j : ℕ) → AlikeData f r (blk c j) (blk a j)
  apart-each r ne =
      put-each a k new put-at size-new (AlikeData f r)
      (record { block = datas-new f r; payload = λ e. absurd (ne (sym (data_is f r old e).number ∙ (data_is f q old hit-was).number)) })
      (λ b. (alike-own f b).block r)

  place-new : data_of c f q ≡ k
  place-new =
      data-at c f q k (omega (arith, blocks-new, put-at))
      (λ j l. data-each q j ∙ (data-first a f q).before j l)
      (data-each q k ∙ hit-was)

  byte-new : (i : ℕ) → byte_in c f q i ≡ get_or new (24 + i) 0
  byte-new i =
      byte-here c f q (present-after q ∙ was) i
      ∙ ap (λ (j : ℕ). get_or (blk c j) (24 + i) 0) place-new
      ∙ ap (λ (b : List ℕ). get_or b (24 + i) 0) (blk-put_blk-same a k new put-at size-new)

  used-same : free_of c ≡ free_of a
  unfolding free_of
  used-same = lowest-put_blk a k new put-at size-new is_free (free-cong new old size-new size-was same-24)

  none-new : bit (not (present a f q)) ≡ 0
  none-new = ap (λ (t : Bool). bit (not t)) was

  pub wrote-there : Wrote a (put_blk a (data_of a f q) (seal (paste (blk a (data_of a f q)) (24 + off) src))) f q off src
  wrote-there = record {
    size = length-put_blk a k new put-at size-new;
    bytes = λ h s. put_blk-bytes a k new put-at size-new h (written-bytes old off src size-was fits (blk-bytes a k h) s);
    tidy = λ h s T.
        put-tidy-same a k new put-at size-new
        (written-sound old off src size-was fits (blk-bytes a k h) s tag-was
        (shaped_of old (T.each k put-at) (λ e. absurd (omega (arith, tag-was)))))
        heads-new datas-new T;
    free = count_same;
    exists = there-same a c blocks-new f (λ j _. (head-each j).head);
    long = length-same a c blocks-new f (λ j _. head-each j);
    here = present-after q ∙ was;
    rest = λ r _. present-after r;
    inside = λ i g l. byte-new i ∙ written_in old off src size-was fits i g l;
    outside = λ i l h. byte-new i ∙ written_out old off src size-was fits i l h ∙ sym (byte-here a f q was i);
    apart = λ r i ne l. byte-same a c blocks-new f r (λ j _. apart-each r ne j) i l;
    others = put-others a k new put-at size-new f (inr (file-cong new old size-new size-was same-24 ∙ file-was)) (inr file-was);
    head = heads-same a c blocks-new f (λ j _. (head-each j).head);
    place = λ r _. datas-same a c blocks-new f r (λ j _. data-each r j);
    used = omega (arith, used-same, none-new);
  }
    where
      count_same : free_count c + bit (not (present a f q)) ≡ free_count a
      count_same = omega (arith, none-new, count-put_blk a k new put-at size-new, ap bit (free-cong new old size-new size-was same-24))
