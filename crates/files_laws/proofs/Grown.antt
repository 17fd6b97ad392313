-- A cut to a length that is not shorter sets the length and nothing else: no block lies past it, and the tail is zero already.
use mathlib.Core.Path.{◌≡◌, refl, sym, ap, ◌∙◌}
use mathlib.Core.Bool.{Bool, true, false}
use mathlib.Core.List.{List}
use mathlib.Core.Logic.{⊎_elim}
use Prim.Native.Nat.{ℕ, zero, suc, ◌+◌, ◌*◌, ◌-◌, ◌/◌, ◌%◌, ◌≤◌, ◌<◌}
use native.Mathlib.Nat.{le_refl}
use native.Mathlib.Omega.{arith}
use lib.ListN.{length, get_or, replicate, length-replicate, get_or-replicate}
use lib.Seq.{ext_get_or}
use borrow.Author.Tests.{le-leb}
use Rattle.base.specs.Out.{done}
use Rattle.base.specs.Parts.{part, paste}
use Rattle.base.proofs.Bools.{bool_cases}
use Rattle.base.proofs.Counts.{count_to-none}
use Rattle.base.proofs.Finds.{count_to-some}
use Rattle.base.proofs.Lists.{length_part, get_d_part, paste-own}
use Rattle.base.proofs.Parts.{back-paste}
use Rattle.base.proofs.Sames.{test-fails}
use Rattle.le.specs.Le.{Bytes}
use Rattle.arena.specs.Blocks.{blk, put_blk, blocks}
use Rattle.arena.specs.Fields.{File, number_of, seal}
use Rattle.arena.specs.Places.{data_of}
use Rattle.arena.proofs.Blocks.{length-blk, blk-bytes}
use Rattle.arena.proofs.Seals.{seal-own}
use Rattle.sound.specs.Sound.{sound}
use Rattle.files.specs.Read.{there, length_of, present}
use Rattle.files.specs.Store.{longest, set_length, clear_to, clear_all, is_past, zero_tail, cut_file}
use Rattle.files_laws.specs.Laws.{past_count}
use Rattle.files_laws.proofs.Views.{byte_in, byte-in, byte-here, present-at, present-of}
use Rattle.files_laws.proofs.Parts.{sound-tidy, sound-inside}
use Rattle.files_laws.proofs.Lengths.{Lengthened, lengthened}
use Rattle.files_laws.proofs.Cut.{past-data, past-number}

-- a block stored as it is
pub blk-own : (a : List ℕ) (k : ℕ) → k < blocks a → put_blk a k (blk a k) ≡ a
unfolding put_blk blk
blk-own a k l =
    let n : length (part a (512 * k) (512 * k + 512)) ≡ 512 = length_part a (512 * k) (512 * k + 512) (omega arith) (omega arith) ∙ omega arith in
    back-paste a (part a (512 * k) (512 * k + 512)) (512 * k) 512 n ∙ paste-own a (512 * k) (512 * k + 512) (omega arith) (omega arith)

-- a test that no block passes frees none
clear_first : (p : List ℕ → Bool) (a : List ℕ) → ((k : ℕ) → k < blocks a → p (blk a k) ≡ false) → (n : ℕ) → n ≤ blocks a → clear_to p a n ≡ a
unfolding clear_to
clear_first p a none zero l = refl
clear_first p a none (suc n) l = rw (none n (omega arith)) (clear_first p a none n (omega arith))

clear_none : (p : List ℕ → Bool) (a : List ℕ) → ((k : ℕ) → k < blocks a → p (blk a k) ≡ false) → clear_all p a ≡ a
unfolding clear_all
clear_none p a none = clear_first p a none (blocks a) (le_refl (blocks a))

-- zeros laid over zeros
paste-zeros : (b : List ℕ) (s n : ℕ) → s + n ≤ length b → ((i : ℕ) → i < n → get_or b (s + i) 0 ≡ 0) → paste b s (replicate n 0) ≡ b
paste-zeros b s n l z =
    let m : length (part b s (s + n)) ≡ n = length_part b s (s + n) (omega arith) l ∙ omega arith in
    ap (paste b s)
    (ext_get_or 0 _ _ (length-replicate n 0 ∙ sym m)
    (λ i h.
    let k : i < n = omega (arith, length-replicate {A = ℕ} n 0) in
    get_or-replicate n i 0 0 k ∙ sym (get_d_part b s (s + n) i (omega arith) ∙ z i k)))
    ∙ paste-own b s (s + n) (omega arith) l

module _ (a : List ℕ) (f : File) (len : ℕ) (ok : sound a ≡ true) (h : Bytes a) (was : there a f ≡ true) (grows : length_of a f ≤ len) (range : len ≤ longest) where
  c : List ℕ
  c = set_length a f len

  L : Lengthened a c f len
  unfolding c
  L = lengthened a f len was range

  -- no block lies past the new length
  none-past : past_count a f len ≡ 0
  unfolding past_count
  none-past =
      count_to-none (λ k. is_past f len (blk a k)) (blocks a) (λ k l.
      test-fails (is_past f len (blk a k)) (λ e.
      let u = (sound-inside a ok f).under (number_of (blk a k)) (present-of a f (number_of (blk a k)) k l (past-data f len (blk a k) e)) in
      omega (arith, past-number f len (blk a k) e, u.1)))

  none-cleared : clear_all (is_past f len) c ≡ c
  unfolding past_count
  none-cleared =
      clear_none (is_past f len) c (λ k l.
      test-fails (is_past f len (blk c k)) (λ e. omega (arith, count_to-some (λ j. is_past f len (blk c j)) (blocks c) k l e, L.past len, none-past)))

  -- its tail
  tail-zero : (i : ℕ) → len % 480 ≤ i → i < 480 → byte_in c f (len / 480) i ≡ 0
  tail-zero i g l =
      let p : ℕ = 480 * (len / 480) + i in
      let d : p / 480 ≡ len / 480 = omega arith in
      let r : p % 480 ≡ i = omega arith in
      L.byte (len / 480) i l
      ∙ sym (byte-in a f p ∙ rw (d, r))
      ∙ (sound-inside a ok f).past p (omega arith)

  tail-kept : zero_tail c f len ≡ c
  unfolding zero_tail
  tail-kept =
      ⊎_elim
      (λ e.
      let k : ℕ = data_of c f (len / 480) in
      let l : k < blocks c = present-at c f (len / 480) e in
      let n : length (blk c k) ≡ 512 = length-blk c k l in
      let z : paste (blk c k) (24 + len % 480) (replicate (480 - len % 480) 0) ≡ blk c k =
      paste-zeros (blk c k) (24 + len % 480) (480 - len % 480) (omega arith) (λ i m.
      ap (λ (j : ℕ). get_or (blk c k) j 0) (let q : 24 + len % 480 + i ≡ 24 + (len % 480 + i) = omega arith in q)
      ∙ sym (byte-here c f (len / 480) e (len % 480 + i)) ∙ tail-zero (len % 480 + i) (omega arith) (omega arith)) in
      let s : seal (blk c k) ≡ blk c k = seal-own (blk c k) n (blk-bytes c k (L.bytes h)) ((L.tidy h (sound-tidy a ok)).each k l).check in
      rw e (ap (put_blk c k) (ap seal z ∙ s) ∙ blk-own c k l))
      (λ e. rw e refl)
      (bool_cases (present c f (len / 480)))

  pub cut-grown : cut_file a f len ≡ done (set_length a f len)
  unfolding cut_file c
  cut-grown = rw (was, le-leb len longest range) (ap done (ap (λ (x : List ℕ). zero_tail x f len) none-cleared ∙ tail-kept))
