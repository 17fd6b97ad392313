-- A head gets another length.
use mathlib.Core.Path.{◌≡◌, refl, sym, ap, ◌∙◌}
use mathlib.Core.Bool.{true, false}
use mathlib.Core.List.{List}
use mathlib.Core.Logic.{inr, ◌≢◌}
use Prim.Native.Nat.{ℕ, ◌≤◌, ◌<◌}
use native.Mathlib.Omega.{arith}
use lib.ListN.{length}
use Rattle.base.specs.Count.{bit}
use Rattle.base.proofs.Bools.{true-false}
use Rattle.le.specs.Le.{Bytes, le_put}
use Rattle.arena.specs.Blocks.{blk, put_blk, blocks}
use Rattle.arena.specs.Fields.{File, tag_of, number_of, file_of, is_free, is_head, is_data, seal}
use Rattle.arena.specs.Places.{free_of, head_of, data_of, free_count}
use Rattle.arena.proofs.Blocks.{length-blk, blk-bytes, length-put_blk, blocks-put_blk, blk-put_blk-same, put_blk-bytes}
use Rattle.arena.proofs.Fields.{head-is, head-own, head-one, data-not, free-not}
use Rattle.arena.proofs.Places.{test-put_blk, lowest-put_blk, head-put_blk, count-put_blk}
use Rattle.files.specs.Read.{there, length_of, present}
use Rattle.files.specs.Store.{longest, set_length, is_past}
use Rattle.files_laws.specs.Laws.{Kept, past_count}
use Rattle.files_laws.proofs.Views.{alike-own, byte_in, AlikeData, there-at, there-hit, length-here, datas-same, there-same, present-same, byte-same}
use Rattle.files_laws.proofs.Parts.{Tidy}
use Rattle.files_laws.proofs.Shapes.{shaped_of, length-head, head-out, head-number, head-file, head_bytes, head-sound}
use Rattle.files_laws.proofs.Steps.{put-each, put-others, put_count, put-tidy-same}

pub record Lengthened (a a' : List ℕ) (f : File) (len : ℕ) : Type 0 where
  pub size : length a' ≡ length a
  pub bytes : Bytes a → Bytes a'
  pub tidy : Bytes a → Tidy a → Tidy a'
  pub free : free_count a' ≡ free_count a
  pub exists : there a' f ≡ true
  pub long : length_of a' f ≡ len
  pub block : (q : ℕ) → present a' f q ≡ present a f q
  pub byte : (q i : ℕ) → i < 480 → byte_in a' f q i ≡ byte_in a f q i
  pub past : (n : ℕ) → past_count a' f n ≡ past_count a f n
  pub others : (g : File) → f ≢ g → Kept a a' g
  -- all blocks stay in their places
  pub head : head_of a' f ≡ head_of a f
  pub place : (q : ℕ) → data_of a' f q ≡ data_of a f q
  pub used : free_of a' ≡ free_of a

-- a block that is no data block lies past nothing
pub past-not : (f : File) (n : ℕ) (b : List ℕ) → tag_of b ≢ 2 → is_past f n b ≡ false
unfolding is_past
past-not f n b t = rw (data-not f (number_of b) b t)

module _ (a : List ℕ) (f : File) (len : ℕ) (was : there a f ≡ true) (range : len ≤ longest) where
  abbrev k : ℕ
  k = head_of a f

  abbrev old : List ℕ
  old = blk a k

  abbrev new : List ℕ
  new = seal (le_put old 20 4 len)

  abbrev c : List ℕ
  c = put_blk a k new

  in-a : k < blocks a
  in-a = there-at a f was

  size-old : length old ≡ 512
  size-old = length-blk a k in-a

  size-new : length new ≡ 512
  size-new = length-head old len size-old

  is : set_length a f len ≡ c
  unfolding set_length
  is = refl

  tag-old : tag_of old ≡ 1
  tag-old = (head-is f old (there-hit a f was)).tag

  file-old : file_of old ≡ f
  file-old = (head-is f old (there-hit a f was)).of

  tag-new : tag_of new ≡ 1
  tag-new = head-out old len size-old 0 (omega arith) (λ g. absurd (omega arith)) ∙ tag-old

  file-new : file_of new ≡ f
  file-new = head-file old len size-old ∙ file-old

  hit-new : is_head f new ≡ true
  hit-new = head-own f new (record { tag = tag-new; of = file-new })

  heads : (g : File) → is_head g new ≡ is_head g old
  heads g = head-one f g new hit-new ∙ sym (head-one f g old (there-hit a f was))

  no-new : (g : File) (q : ℕ) → is_data g q new ≡ false
  no-new g q = data-not g q new (λ e. absurd (omega (arith, tag-new)))

  no_old : (g : File) (q : ℕ) → is_data g q old ≡ false
  no_old g q = data-not g q old (λ e. absurd (omega (arith, tag-old)))

  free-same : is_free new ≡ is_free old
  free-same = free-not new (λ e. absurd (omega (arith, tag-new))) ∙ sym (free-not old (λ e. absurd (omega (arith, tag-old))))

  datas : (q j : ℕ) → AlikeData f q (blk c j) (blk a j)
  datas q =
      put-each a k new in-a size-new (AlikeData f q)
      (record { block = no-new f q ∙ sym (no_old f q); payload = λ e. absurd (true-false e (no_old f q)) })
      (λ b. (alike-own f b).block q)

  n-blocks : blocks c ≡ blocks a
  n-blocks = blocks-put_blk a k new in-a size-new

  there-new : there c f ≡ true
  there-new = there-same a c n-blocks f (λ j _. test-put_blk a k new in-a size-new (is_head f) (heads f) j) ∙ was

  number-new : number_of new ≡ len
  number-new = head-number old len size-old (omega arith)

  length-new : length_of c f ≡ len
  length-new =
      length-here c f there-new
      ∙ ap (λ (j : ℕ). number_of (blk c j)) (head-put_blk a k new in-a size-new f (heads f))
      ∙ ap number_of (blk-put_blk-same a k new in-a size-new) ∙ number-new

  sound-new : Bytes a → Tidy a → Tidy c
  sound-new h T =
      put-tidy-same a k new in-a size-new
      (head-sound old len size-old (blk-bytes a k h) (shaped_of old (T.each k in-a) (λ e. absurd (omega (arith, tag-old)))))
      heads (λ g q. no-new g q ∙ sym (no_old g q)) T

  bytes-new : Bytes a → Bytes c
  bytes-new h = put_blk-bytes a k new in-a size-new h (head_bytes old len size-old (blk-bytes a k h))

  past_same : (n : ℕ) → past_count c f n ≡ past_count a f n
  unfolding past_count
  past_same n =
      put_count a k new in-a size-new (is_past f n)
      (past-not f n new (λ e. absurd (omega (arith, tag-new))) ∙ sym (past-not f n old (λ e. absurd (omega (arith, tag-old)))))

  used-same : free_of c ≡ free_of a
  unfolding free_of
  used-same = lowest-put_blk a k new in-a size-new is_free free-same

  pub lengthened : Lengthened a (set_length a f len) f len
  lengthened =
      rw is (record {
        size = length-put_blk a k new in-a size-new;
        bytes = bytes-new;
        tidy = sound-new;
        free = count_same;
        exists = there-new;
        long = length-new;
        block = λ q. present-same a c n-blocks f q (λ j _. (datas q j).block);
        byte = λ q i l. byte-same a c n-blocks f q (λ j _. datas q j) i l;
        past = past_same;
        others = put-others a k new in-a size-new f (inr file-new) (inr file-old);
        head = head-put_blk a k new in-a size-new f (heads f);
        place = λ q. datas-same a c n-blocks f q (λ j _. (datas q j).block);
        used = used-same;
      })
    where
      count_same : free_count c ≡ free_count a
      count_same = omega (arith, count-put_blk a k new in-a size-new, ap bit free-same)
