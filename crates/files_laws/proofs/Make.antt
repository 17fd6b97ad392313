-- What make does: a free block becomes a head, and nothing else changes.
use mathlib.Core.Path.{◌≡◌, sym, ◌∙◌, subst, ap}
use mathlib.Core.List.{List}
use mathlib.Core.Logic.{⊎_elim, inl, inr, ◌≢◌}
use mathlib.Core.Bool.{true, false}
use Prim.Native.Nat.{ℕ, ◌/◌, ◌%◌, ◌<◌}
use native.Mathlib.Omega.{arith}
use lib.Dec.{ltb}
use lib.ListN.{length}
use borrow.Author.Tests.{le-ltb, ltb-true, ltb-false}
use Rattle.base.specs.Out.{done, refused, Ok, went}
use Rattle.base.proofs.Bools.{true-false}
use Rattle.base.proofs.Numbers.{lt-or-le}
use Rattle.base.proofs.Outs.{ok-done, ok-does, ok-test}
use Rattle.le.specs.Le.{Bytes}
use Rattle.arena.specs.Blocks.{blk, put_blk, blocks}
use Rattle.arena.specs.Fields.{File, seal, fresh, tag_of, number_of, is_head, is_data}
use Rattle.arena.specs.Places.{free_of, free_count, head_of}
use Rattle.arena.proofs.Blocks.{length-put_blk, blocks-put_blk, blk-put_blk-same, blk-put_blk-other, put_blk-bytes}
use Rattle.arena.proofs.Fields.{head-is, data-not}
use Rattle.arena.proofs.Fresh.{length-fresh, fresh-number, fresh-bytes, fresh-head}
use Rattle.arena.proofs.Seals.{length-seal, seal-bytes, seal-number, seal-head}
use Rattle.files.specs.Read.{byte_at, there, length_of, present}
use Rattle.files.specs.Store.{claim, make_file}
use Rattle.files_laws.specs.Laws.{Named, Make, MakeRefused, full, Kept}
use Rattle.files_laws.proofs.Views.{alike-own, byte-in, length_none, AlikeData, there-of, there-not, length-here, head_at_lem, present-same, byte-same}
use Rattle.files_laws.proofs.Parts.{sound-tidy, sound-inside, no_blocks, sound-after, Tidy}
use Rattle.files_laws.proofs.Shapes.{shaped_fresh, shaped-seal}
use Rattle.files_laws.proofs.Steps.{put-each, put-others, put-tidy}
use Rattle.files_laws.proofs.Claims.{none_free, some-free, tag_free, free-data, free-fewer}

-- a free block becomes the head of a file
module _ (a : List ℕ) (f : File) (N : Named f) (room : free_of a < blocks a) where
  abbrev k : ℕ
  k = free_of a

  abbrev blank : List ℕ
  blank = fresh 1 f 0

  abbrev new : List ℕ
  new = seal blank

  abbrev c : List ℕ
  c = put_blk a k new

  size-blank : length blank ≡ 512
  size-blank = length-fresh 1 f 0 N.size

  size-new : length new ≡ 512
  size-new = length-seal blank size-blank

  hit-new : is_head f new ≡ true
  hit-new = seal-head blank size-blank f ∙ fresh-head f 0 N.size

  tag-new : tag_of new ≡ 1
  tag-new = (head-is f new hit-new).tag

  number-new : number_of new ≡ 0
  number-new = seal-number blank size-blank ∙ fresh-number 1 f 0 N.size (omega arith)

  no-data : (g : File) (q : ℕ) → is_data g q new ≡ false
  no-data g q = data-not g q new (λ e. absurd (omega (arith, tag-new)))

  blocks-new : blocks c ≡ blocks a
  blocks-new = blocks-put_blk a k new room size-new

  data-new : (q j : ℕ) → AlikeData f q (blk c j) (blk a j)
  data-new q =
      put-each a k new room size-new (AlikeData f q)
      (record { block = no-data f q ∙ sym (free-data a room f q); payload = λ e. absurd (true-false e (free-data a room f q)) })
      (λ b. (alike-own f b).block q)

  at_new : is_head f (blk c k) ≡ true
  at_new = ap (is_head f) (blk-put_blk-same a k new room size-new) ∙ hit-new

  there-new : there c f ≡ true
  there-new = there-of c f k (omega (arith, blocks-new, room)) at_new

  length-new : there a f ≡ false → length_of c f ≡ 0
  length-new none =
      let e : head_of c f ≡ k =
      head_at_lem c f k (omega (arith, blocks-new, room))
      (λ j l. ap (is_head f) (blk-put_blk-other a k new room size-new j (omega arith)) ∙ there-not a f none j (omega (arith, room)))
      at_new in
      length-here c f there-new
      ∙ ap (λ (j : ℕ). number_of (blk c j)) e
      ∙ ap number_of (blk-put_blk-same a k new room size-new) ∙ number-new

  bytes-blank : Bytes blank
  bytes-blank = fresh-bytes 1 f 0 N.size (omega arith) (omega (arith, N.kind)) N.bytes

  byte-new : (p : ℕ) → byte_at c f p ≡ byte_at a f p
  byte-new p = byte-in c f p ∙ byte-same a c blocks-new f (p / 480) (λ j _. data-new (p / 480) j) (p % 480) (omega arith) ∙ sym (byte-in a f p)

  block_new : (q : ℕ) → present c f q ≡ present a f q
  block_new q = present-same a c blocks-new f q (λ j _. (data-new q j).block)

  others-new : (g : File) → f ≢ g → Kept a c g
  others-new = put-others a k new room size-new f (inr (head-is f new hit-new).of) (inl (tag_free a room))

  tidy-new : there a f ≡ false → Tidy a → Tidy c
  tidy-new none T =
      put-tidy a k new room size-new
      (shaped-seal blank size-blank bytes-blank (shaped_fresh 1 f 0 N (λ e. absurd (omega arith)) (omega arith)))
      (λ g e j l p. absurd (true-false (subst (λ (h : File). is_head h (blk a j) ≡ true) (sym (sym (head-is f new hit-new).of ∙ (head-is g new e).of)) p) (there-not a f none j l)))
      (λ g q e. absurd (true-false e (no-data g q)))
      T

  made : Make a f (put_blk a (free_of a) (seal (fresh 1 f 0)))
  made = record {
    room = some-free a room;
    size = length-put_blk a k new room size-new;
    bytes = λ h. put_blk-bytes a k new room size-new h (seal-bytes blank size-blank bytes-blank);
    keeps = λ h ok none.
        sound-after a c f ok (tidy-new none (sound-tidy a ok))
        (record {
          under = λ q e. absurd (true-false e (block_new q ∙ no_blocks a f (sound-inside a ok f) none q));
          past = λ p l. byte-new p ∙ (sound-inside a ok f).past p (omega (arith, length_none a f none));
        })
        others-new;
    free = free-fewer a room new size-new (λ e. absurd (omega (arith, tag-new)));
    exists = there-new;
    long = length-new;
    block = block_new;
    byte = byte-new;
    empty = λ ok none q. block_new q ∙ no_blocks a f (sound-inside a ok f) none q;
    blank = λ ok none p. byte-new p ∙ (sound-inside a ok f).past p (omega (arith, length_none a f none));
    others = others-new;
  }

module _ (a : List ℕ) (f : File) (N : Named f) where
  -- make does what it says, or no block is free
  pub make-law : Ok (Make a f) (MakeRefused a) (make_file a f)
  unfolding make_file claim
  make-law = ok-test (ltb (free_of a) (blocks a)) 17 (λ e. full (none_free a (ltb-false _ _ e))) (λ e. went (made a f N (ltb-true _ _ e)))

  -- it can be done where a block is free
  pub make-done : 0 < free_count a → (a' : List ℕ) × (make_file a f ≡ done a') × Make a f a'
  make-done l = ok-does make-law (λ n r. go r)
    where
      go : {n : ℕ} → MakeRefused a n → ⊥
      go (full e) = omega arith

-- and is refused where none is
pub make-full : (a : List ℕ) (f : File) → free_count a ≡ 0 → make_file a f ≡ refused 17
unfolding make_file claim
make-full a f e = rw (le-ltb (free_of a) (blocks a) (⊎_elim (λ l. absurd (omega (arith, some-free a l))) (λ g. g) (lt-or-le (free_of a) (blocks a))))

-- whatever it left, it did that
pub make-is : (a : List ℕ) (f : File) → Named f → (a' : List ℕ) → make_file a f ≡ done a' → Make a f a'
make-is a f N a' e = ok-done (subst (Ok (Make a f) (MakeRefused a)) e (make-law a f N))
