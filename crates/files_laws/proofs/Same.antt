-- Bytes that are there already are written: not a byte of a sound arena changes, where the touched blocks are there.
use mathlib.Core.Path.{◌≡◌, refl, sym, ap, ◌∙◌}
use mathlib.Core.Bool.{true}
use mathlib.Core.List.{List}
use Prim.Native.Nat.{ℕ, zero, suc, ◌+◌, ◌*◌, ◌-◌, ◌/◌, ◌%◌, ◌≤◌, ◌<◌}
use native.Mathlib.Omega.{arith}
use lib.ListN.{length, get_or}
use lib.Seq.{ext_get_or}
use borrow.Author.Tests.{ltb-true, le-ltb}
use Rattle.base.specs.Out.{done}
use Rattle.base.specs.Parts.{part, paste}
use Rattle.base.proofs.Lists.{length_part, get_d_part, paste-own}
use Rattle.le.specs.Le.{Bytes}
use Rattle.arena.specs.Blocks.{blk, put_blk, blocks}
use Rattle.arena.specs.Fields.{File, seal}
use Rattle.arena.specs.Places.{data_of}
use Rattle.arena.proofs.Blocks.{length-blk, blk-bytes}
use Rattle.arena.proofs.Seals.{seal-own}
use Rattle.sound.specs.Sound.{sound}
use Rattle.files.specs.Read.{there, length_of, present, byte_at}
use Rattle.files.specs.Store.{raise, lo, hi, write_blk, put_block, put_to, touched, put_file}
use Rattle.files_laws.specs.Laws.{touches}
use Rattle.files_laws.proofs.Bounds.{length-fits}
use Rattle.files_laws.proofs.Views.{byte_in, byte-in, byte-here, present-at}
use Rattle.files_laws.proofs.Parts.{sound-tidy}
use Rattle.files_laws.proofs.Put.{touched-is, put_all, put-starts, put-more}
use Rattle.files_laws.proofs.Grown.{blk-own}

module _ (a : List ℕ) (f : File) (pos : ℕ) (src : List ℕ) (ok : sound a ≡ true) (B : Bytes a) (was : there a f ≡ true) (end : pos + length src ≤ length_of a f)
    (same : (i : ℕ) → i < length src → get_or src i 0 ≡ byte_at a f (pos + i)) (here : (q : ℕ) → touches pos (length src) q ≡ true → present a f q ≡ true) where
  -- m bytes of src from s on, which stand in block q from o on
  piece-same : (q s o m : ℕ) → present a f q ≡ true → pos + s ≡ 480 * q + o → o + m ≤ 480 → s + m ≤ length src
      → put_blk a (data_of a f q) (seal (paste (blk a (data_of a f q)) (24 + o) (part src s (s + m)))) ≡ a
  piece-same q s o m p at low high =
      let k : ℕ = data_of a f q in
      let l : k < blocks a = present-at a f q p in
      let n : length (blk a k) ≡ 512 = length-blk a k l in
      let own : part src s (s + m) ≡ part (blk a k) (24 + o) (24 + o + m) =
      ext_get_or 0 _ _ (length_part src s (s + m) (omega arith) high ∙ sym (length_part (blk a k) (24 + o) (24 + o + m) (omega arith) (omega arith) ∙ omega arith))
      (λ j h.
      let d : j < m = omega (arith, length_part src s (s + m) (omega arith) high) in
      let u : ℕ = pos + (s + j) in
      let r : u / 480 ≡ q = omega arith in
      let t : u % 480 ≡ o + j = omega arith in
      get_d_part src s (s + m) j (omega arith) ∙ same (s + j) (omega arith) ∙ byte-in a f u ∙ (λ z. byte_in a f (r z) (t z)) ∙ byte-here a f q p (o + j)
      ∙ ap (λ (i : ℕ). get_or (blk a k) i 0) (let z : 24 + (o + j) ≡ 24 + o + j = omega arith in z)
      ∙ sym (get_d_part (blk a k) (24 + o) (24 + o + m) j (omega arith))) in
      ap (λ (b : List ℕ). put_blk a k (seal (paste (blk a k) (24 + o) b))) own
      ∙ ap (λ (b : List ℕ). put_blk a k (seal b)) (paste-own (blk a k) (24 + o) (24 + o + m) (omega arith) (omega arith))
      ∙ ap (put_blk a k) (seal-own (blk a k) n (blk-bytes a k B) ((sound-tidy a ok).each k l).check)
      ∙ blk-own a k l

  between : (q x y : ℕ) → present a f q ≡ true → pos ≤ x → 480 * q ≤ x → x < y → y ≤ pos + length src → y ≤ 480 * q + 480
      → put_blk a (data_of a f q) (seal (paste (blk a (data_of a f q)) (24 + (x - 480 * q)) (part src (x - pos) (y - pos)))) ≡ a
  between q x y p g h l m n =
      ap (λ (e : ℕ). put_blk a (data_of a f q) (seal (paste (blk a (data_of a f q)) (24 + (x - 480 * q)) (part src (x - pos) e)))) (let z : y - pos ≡ x - pos + (y - x) = omega arith in z)
      ∙ piece-same q (x - pos) (x - 480 * q) (y - x) p (omega arith) (omega arith) (omega arith)

  block_same : (q : ℕ) → touches pos (length src) q ≡ true → put_block a f pos src q ≡ done a
  unfolding put_block write_blk
  block_same q e =
      let p : present a f q ≡ true = here q e in
      let g : lo pos q < hi pos (length src) q = ltb-true (lo pos q) (hi pos (length src) q) e in
      rw p (ap done (between q (lo pos q) (hi pos (length src) q) p (omega arith) (omega arith) g (omega arith) (omega arith)))

  raised : raise a f (pos + length src) ≡ a
  unfolding raise
  raised = rw (le-ltb (length_of a f) (pos + length src) end) refl

  to_same : (i : ℕ) → i ≤ touched pos (length src) → put_to a f pos src i ≡ done a
  to_same zero l = put-starts a f pos src ∙ ap done raised
  to_same (suc i) l =
      ap (put_to a f pos src) (let e : suc i ≡ i + 1 = omega arith in e) ∙ put-more a f pos src i a (to_same i (omega arith))
      ∙ block_same (pos / 480 + i) (touched-is pos (length src) i (omega arith))

  pub put_same : put_file a f pos src ≡ done a
  put_same = put_all a f pos src was (omega (arith, length-fits a f B)) ∙ to_same (touched pos (length src)) (omega arith)
