-- What a store does to the first 24 bytes of the blocks hangs on place and length alone, not on the bytes that are stored; and sound arenas whose
-- blocks begin with the same 24 bytes, and whose files have the same bytes, are the same.
use mathlib.Core.Path.{◌≡◌, refl, sym, ap, ap₂, ◌∙◌, subst}
use mathlib.Core.Bool.{Bool, true, false, not}
use mathlib.Core.List.{List, ◌++◌}
use mathlib.Core.Logic.{⊎_elim}
use Prim.Native.Nat.{ℕ, zero, suc, ◌+◌, ◌*◌, ◌-◌, ◌/◌, ◌%◌, ◌≤◌, ◌<◌}
use native.Mathlib.Decide.{ℕ_discrete}
use native.Mathlib.Omega.{arith}
use lib.ListN.{length, get_or, length-append, get_or-append}
use lib.Dec.{ltb}
use lib.Seq.{ext_get_or, get_or-append-add}
use borrow.Author.Tests.{lt-ltb, le-ltb, ltb-true}
use Rattle.base.specs.Count.{count_to}
use Rattle.base.specs.Out.{Out, done, refused, bind}
use Rattle.base.specs.Parts.{part, paste}
use Rattle.base.specs.Search.{lowest, pick}
use Rattle.base.proofs.Counts.{count_to-cong, count_to-none}
use Rattle.base.proofs.Bools.{bool_cases}
use Rattle.base.proofs.Lists.{length_part, length-paste, get_or-paste-in, get_or-paste-out}
use Rattle.base.proofs.Numbers.{lt-or-le}
use Rattle.base.proofs.Parts.{part-whole}
use Rattle.base.proofs.Outs.{bind-is-done}
use Rattle.base.proofs.Searches.{lowest-cong}
use Rattle.le.specs.Le.{Bytes, le_put, le_bytes}
use Rattle.le.proofs.Laws.{length-le_bytes, length-le_put}
use Rattle.arena.specs.Blocks.{blk, put_blk, blocks}
use Rattle.arena.specs.Fields.{File, tag_of, number_of, file_of, is_free, is_head, is_data, seal, fresh}
use Rattle.arena.specs.Places.{free_of, head_of, data_of, free_count}
use Rattle.arena.proofs.Blocks.{length-blk, get_or-blk, blk-bytes, length-put_blk, blk-put_blk-same, blk-put_blk-other, get_or-put_blk}
use Rattle.arena.proofs.Fields.{Same24, number-cong, free-cong, head-cong, data-cong, data-own}
use Rattle.arena.proofs.Fresh.{length-fresh}
use Rattle.arena.proofs.Seals.{length-seal, get_or-seal, seal-own, seal-cong}
use Rattle.sound.specs.Sound.{sound}
use Rattle.sound.proofs.Sounds.{BlockSound, sound-at}
use Rattle.files.specs.Read.{there, length_of, present, byte_at}
use Rattle.files.specs.Store.{longest, claim, write_blk, set_length, raise, lo, hi, put_block, put_to, touched, put_file}
use Rattle.files_laws.specs.Laws.{touches, lacking, Put}
use Rattle.files_laws.proofs.Bounds.{length-fits}
use Rattle.files_laws.proofs.Grown.{blk-own}
use Rattle.files_laws.proofs.Parts.{sound-tidy, file-cases}
use Rattle.files_laws.proofs.Put.{touched-is, put-upto, put_all, put-missing, put-far, put-done, put_is}
use Rattle.files_laws.proofs.Shapes.{length-head, head-out, length-written, written-24}
use Rattle.files_laws.proofs.Steps.{name-size}
use Rattle.files_laws.proofs.Views.{byte_in, byte-in, byte-here, there-at, present-at, present-of, heads-same, there-same, length-same, datas-same, present-same}
use Rattle.pieces.specs.Made.{made_blk}

-- ---- the same first 24 bytes: tag, file, and number or length

pub record SameFronts (d e : List ℕ) : Type 0 where
  pub size : length d ≡ length e
  pub front : (k : ℕ) → k < blocks d → Same24 (blk d k) (blk e k)
  -- what lies past the last whole block
  pub rest : (i : ℕ) → 512 * blocks d ≤ i → get_or d i 0 ≡ get_or e i 0

pub fronts-refl : (d : List ℕ) → SameFronts d d
fronts-refl d = record { size = refl; front = λ k l j h. refl; rest = λ i g. refl }

pub fronts-sym : {d e : List ℕ} → SameFronts d e → SameFronts e d
fronts-sym A = record {
  size = sym A.size;
  front = λ k l j h. sym (A.front k (omega (arith, A.size)) j h);
  rest = λ i g. sym (A.rest i (omega (arith, A.size)));
}

pub fronts-next : {d e c : List ℕ} → SameFronts d e → SameFronts e c → SameFronts d c
fronts-next A B = record {
  size = A.size ∙ B.size;
  front = λ k l j h. A.front k l j h ∙ B.front k (omega (arith, A.size)) j h;
  rest = λ i g. A.rest i g ∙ B.rest i (omega (arith, A.size));
}

-- ---- what they say of files is the same

module _ (d e : List ℕ) (A : SameFronts d e) where
  pub fronts-blocks : blocks d ≡ blocks e
  fronts-blocks = ap (λ (n : ℕ). n / 512) A.size

  -- a test of blocks that looks at 24 bytes
  module _ (P : List ℕ → Bool) (cong : (b c : List ℕ) → length b ≡ 512 → length c ≡ 512 → Same24 b c → P b ≡ P c) where
    each : (k : ℕ) → k < blocks e → P (blk d k) ≡ P (blk e k)
    each k l = let m : k < blocks d = omega (arith, A.size) in cong (blk d k) (blk e k) (length-blk d k m) (length-blk e k l) (A.front k m)

  heads : (g : File) (k : ℕ) → k < blocks e → is_head g (blk d k) ≡ is_head g (blk e k)
  heads g = each (is_head g) (λ b c s t h. head-cong b c s t h g)

  datas : (g : File) (q k : ℕ) → k < blocks e → is_data g q (blk d k) ≡ is_data g q (blk e k)
  datas g q = each (is_data g q) (λ b c s t h. data-cong b c s t h g q)

  pub fronts-head : (g : File) → head_of d g ≡ head_of e g
  fronts-head g = heads-same e d fronts-blocks g (heads g)

  pub fronts-there : (g : File) → there d g ≡ there e g
  fronts-there g = there-same e d fronts-blocks g (heads g)

  pub fronts-data : (g : File) (q : ℕ) → data_of d g q ≡ data_of e g q
  fronts-data g q = datas-same e d fronts-blocks g q (datas g q)

  pub fronts-present : (g : File) (q : ℕ) → present d g q ≡ present e g q
  fronts-present g q = present-same e d fronts-blocks g q (datas g q)

  pub fronts-length : (g : File) → length_of d g ≡ length_of e g
  fronts-length g = length-same e d fronts-blocks g (λ k l. record { head = heads g k l; number = λ _. numbers k l })
    where
      numbers : (k : ℕ) → k < blocks e → number_of (blk d k) ≡ number_of (blk e k)
      numbers k l = let m : k < blocks d = omega (arith, A.size) in number-cong (blk d k) (blk e k) (length-blk d k m) (length-blk e k l) (A.front k m)

  pub fronts-free : free_of d ≡ free_of e
  unfolding free_of
  fronts-free = ap (lowest (λ k. is_free (blk d k))) fronts-blocks ∙ lowest-cong (λ k. is_free (blk d k)) (λ k. is_free (blk e k)) (blocks e) (each is_free free-cong)

  pub fronts-count : free_count d ≡ free_count e
  unfolding free_count
  fronts-count = ap (count_to (λ k. is_free (blk d k))) fronts-blocks ∙ count_to-cong (λ k. is_free (blk d k)) (λ k. is_free (blk e k)) (blocks e) (each is_free free-cong)

-- ---- one block stored

-- at the same place, blocks that begin alike
pub fronts-put : (d e : List ℕ) → SameFronts d e → (k : ℕ) (b c : List ℕ) → k < blocks d → length b ≡ 512 → length c ≡ 512 → Same24 b c → SameFronts (put_blk d k b) (put_blk e k c)
fronts-put d e A k b c l s t same =
    let m : k < blocks e = omega (arith, A.size) in
    let n : length (put_blk d k b) ≡ length d = length-put_blk d k b l s in
    record {
      size = n ∙ A.size ∙ sym (length-put_blk e k c m t);
      front = λ j g i h. elim (ℕ_discrete j k) [
        | yes x ↦
            ap (λ (z : List ℕ). get_or z i 0) (ap (blk (put_blk d k b)) x ∙ blk-put_blk-same d k b l s)
            ∙ same i h
            ∙ sym (ap (λ (z : List ℕ). get_or z i 0) (ap (blk (put_blk e k c)) x ∙ blk-put_blk-same e k c m t))
        | no x ↦
            ap (λ (z : List ℕ). get_or z i 0) (blk-put_blk-other d k b l s j x)
            ∙ A.front j (omega arith) i h
            ∙ sym (ap (λ (z : List ℕ). get_or z i 0) (blk-put_blk-other e k c m t j x))
      ];
      rest = λ i g. get_or-put_blk d k b l s i (λ _. omega arith) ∙ A.rest i (omega arith) ∙ sym (get_or-put_blk e k c m t i (λ _. omega arith));
    }

-- ---- the length

-- heads that begin alike, with another length
number-24 : (b c : List ℕ) (len : ℕ) → length b ≡ 512 → length c ≡ 512 → Same24 b c → Same24 (seal (le_put b 20 4 len)) (seal (le_put c 20 4 len))
unfolding le_put
number-24 b c len s t same j h =
    let n : length (le_bytes 4 len) ≡ 4 = length-le_bytes 4 len in
    ⊎_elim
    (λ low. head-out b len s j (omega arith) (λ g. absurd (omega arith)) ∙ same j h ∙ sym (head-out c len t j (omega arith) (λ g. absurd (omega arith))))
    (λ (g : 20 ≤ j).
    let q : 20 + (j - 20) ≡ j = omega arith in
    get_or-seal (le_put b 20 4 len) (length-le_put b 20 4 len (omega arith) ∙ s) j (omega arith)
    ∙ ap (λ (x : ℕ). get_or (le_put b 20 4 len) x 0) (sym q)
    ∙ get_or-paste-in b 20 (le_bytes 4 len) (omega arith) (j - 20) (omega arith)
    ∙ sym (get_or-paste-in c 20 (le_bytes 4 len) (omega arith) (j - 20) (omega arith))
    ∙ ap (λ (x : ℕ). get_or (le_put c 20 4 len) x 0) q
    ∙ sym (get_or-seal (le_put c 20 4 len) (length-le_put c 20 4 len (omega arith) ∙ t) j (omega arith)))
    (lt-or-le j 20)

module _ (d e : List ℕ) (A : SameFronts d e) (f : File) (was : there d f ≡ true) (len : ℕ) where
  set-fronts : SameFronts (set_length d f len) (set_length e f len)
  unfolding set_length
  set-fronts =
      let k : ℕ = head_of d f in
      let l : k < blocks d = there-at d f was in
      let m : k < blocks e = omega (arith, A.size) in
      subst (λ (i : ℕ). SameFronts (set_length d f len) (put_blk e i (seal (le_put (blk e i) 20 4 len)))) (fronts-head d e A f)
      (fronts-put d e A k (seal (le_put (blk d k) 20 4 len)) (seal (le_put (blk e k) 20 4 len)) l (length-head (blk d k) len (length-blk d k l)) (length-head (blk e k) len (length-blk e k m))
      (number-24 (blk d k) (blk e k) len (length-blk d k l) (length-blk e k m) (A.front k l)))

  -- raised to the same length
  pub raise-fronts : SameFronts (raise d f len) (raise e f len)
  unfolding raise
  raise-fronts = rw (fronts-length d e A f) (⊎_elim (λ l. rw (lt-ltb (length_of e f) len l) set-fronts) (λ g. rw (le-ltb (length_of e f) len g) A) (lt-or-le (length_of e f) len))

-- ---- outcomes: both are done and alike, or both are refused with the same reason

pub data Likewise : Out (List ℕ) → Out (List ℕ) → Type 0 where
  both : {d e : List ℕ} → SameFronts d e → Likewise (done d) (done e)
  neither : {n : ℕ} → Likewise (refused n) (refused n)

-- one step after another
pub like-bind : {o p : Out (List ℕ)} {g h : List ℕ → Out (List ℕ)} → Likewise o p
    → ((d e : List ℕ) → o ≡ done d → p ≡ done e → SameFronts d e → Likewise (g d) (h e)) → Likewise (bind o g) (bind p h)
like-bind (both {d = d} {e = e} A) next = next d e refl refl A
like-bind neither next = neither

-- where the first is done, so is the second
pub like-done : {o p : Out (List ℕ)} → Likewise o p → (d : List ℕ) → o ≡ done d → (e : List ℕ) × (p ≡ done e) × SameFronts d e
like-done (both {d = b} {e = e} A) d h = let q : b ≡ d = cc in (e, refl, subst (λ (x : List ℕ). SameFronts x e) q A)
like-done neither d h = absurd (let z : ◌≡◌ {A = ℕ} 0 1 = cc in omega arith)

-- ---- one block of a file

-- a new block
claim-fronts : (d e : List ℕ) → SameFronts d e → (b c : List ℕ) → length b ≡ 512 → length c ≡ 512 → Same24 b c → Likewise (claim d b) (claim e c)
unfolding claim
claim-fronts d e A b c s t same =
    rw (sym (fronts-free d e A), sym (fronts-blocks d e A)) (⊎_elim
    (λ l.
    rw (lt-ltb (free_of d) (blocks d) l)
    (both (fronts-put d e A (free_of d) (seal b) (seal c) l (length-seal b s) (length-seal c t) (λ j h. get_or-seal b s j (omega arith) ∙ same j h ∙ sym (get_or-seal c t j (omega arith))))))
    (λ g. rw (le-ltb (free_of d) (blocks d) g) neither)
    (lt-or-le (free_of d) (blocks d)))

-- bytes in a block that is there change nothing of its beginning
written-fronts : (d : List ℕ) (f : File) (q off : ℕ) (x : List ℕ) → present d f q ≡ true → off + length x ≤ 480
    → SameFronts d (put_blk d (data_of d f q) (seal (paste (blk d (data_of d f q)) (24 + off) x)))
written-fronts d f q off x e fits =
    let k : ℕ = data_of d f q in
    let l : k < blocks d = present-at d f q e in
    let n : length (blk d k) ≡ 512 = length-blk d k l in
    subst (λ (c : List ℕ). SameFronts c (put_blk d k (seal (paste (blk d k) (24 + off) x)))) (blk-own d k l)
    (fronts-put d d (fronts-refl d) k (blk d k) (seal (paste (blk d k) (24 + off) x)) l n (length-written (blk d k) off x n fits) (λ j h. sym (written-24 (blk d k) off x n fits j h)))

module _ (d e : List ℕ) (A : SameFronts d e) (f : File) (was : there d f ≡ true) (q : ℕ) where
  size-new : length (fresh 2 f q) ≡ 512
  size-new = length-fresh 2 f q (name-size d f was)

  -- bytes in block q, whichever and wherever in it
  pub write-fronts : (off at : ℕ) (x y : List ℕ) → off + length x ≤ 480 → at + length y ≤ 480 → Likewise (write_blk d f q off x) (write_blk e f q at y)
  unfolding write_blk
  write-fronts off at x y fits fits' = ⊎_elim
      (λ h. let h' : present e f q ≡ true = sym (fronts-present d e A f q) ∙ h in
      rw (h, h') (both (fronts-next (fronts-sym (written-fronts d f q off x h fits)) (fronts-next A (written-fronts e f q at y h' fits')))))
      (λ h. let h' : present e f q ≡ false = sym (fronts-present d e A f q) ∙ h in
      rw (h, h')
      (claim-fronts d e A (paste (fresh 2 f q) (24 + off) x) (paste (fresh 2 f q) (24 + at) y)
      (length-paste (fresh 2 f q) (24 + off) x (omega (arith, size-new)) ∙ size-new) (length-paste (fresh 2 f q) (24 + at) y (omega (arith, size-new)) ∙ size-new)
      (λ j l.
      get_or-paste-out (fresh 2 f q) (24 + off) x (omega (arith, size-new)) j (λ g. absurd (omega arith))
      ∙ sym (get_or-paste-out (fresh 2 f q) (24 + at) y (omega (arith, size-new)) j (λ g. absurd (omega arith))))))
      (bool_cases (present d f q))

  -- a block made of zeros, and one that is written
  pub made-write : (at : ℕ) (y : List ℕ) → at + length y ≤ 480 → Likewise (made_blk d f q) (write_blk e f q at y)
  unfolding made_blk write_blk
  made-write at y fits = ⊎_elim
      (λ h. let h' : present e f q ≡ true = sym (fronts-present d e A f q) ∙ h in rw (h, h') (both (fronts-next A (written-fronts e f q at y h' fits))))
      (λ h. let h' : present e f q ≡ false = sym (fronts-present d e A f q) ∙ h in
      rw (h, h')
      (claim-fronts d e A (fresh 2 f q) (paste (fresh 2 f q) (24 + at) y) size-new (length-paste (fresh 2 f q) (24 + at) y (omega (arith, size-new)) ∙ size-new)
      (λ j l. sym (get_or-paste-out (fresh 2 f q) (24 + at) y (omega (arith, size-new)) j (λ g. absurd (omega arith))))))
      (bool_cases (present d f q))

-- made again, it stays as it is
pub made_again : (d : List ℕ) (f : File) (q : ℕ) → present d f q ≡ true → made_blk d f q ≡ done d
unfolding made_blk
made_again d f q e = rw e

-- ---- put

-- the part of a run that block q has fits into it
pub run_fits : (pos : ℕ) (src : List ℕ) (q : ℕ) → lo pos q < hi pos (length src) q → lo pos q - 480 * q + length (part src (lo pos q - pos) (hi pos (length src) q - pos)) ≤ 480
run_fits pos src q l = omega (arith, length_part src (lo pos q - pos) (hi pos (length src) q - pos) (omega arith) (omega arith))

-- and it has some
pub run-meets : (pos n i : ℕ) → i < touched pos n → lo pos (pos / 480 + i) < hi pos n (pos / 480 + i)
run-meets pos n i l = ltb-true (lo pos (pos / 480 + i)) (hi pos n (pos / 480 + i)) (touched-is pos n i l)

module _ (d e : List ℕ) (A : SameFronts d e) (f : File) (pos : ℕ) (l m : List ℕ) (size : length l ≡ length m) where
  to-fronts : there d f ≡ true → pos + length l ≤ longest → (i : ℕ) → i ≤ touched pos (length l) → Likewise (put_to d f pos l i) (put_to e f pos m i)
  unfolding put_to put_block
  to-fronts was range zero g = both (subst (λ (n : ℕ). SameFronts (raise d f (pos + length l)) (raise e f (pos + n))) size (raise-fronts d e A f was (pos + length l)))
  to-fronts was range (suc i) g =
      like-bind (to-fronts was range i (omega arith)) (λ x y h _ B.
      let w : lo pos (pos / 480 + i) < hi pos (length l) (pos / 480 + i) = run-meets pos (length l) i g in
      write-fronts x y B f (put-upto d f pos l was range i x (omega arith) h).exists (pos / 480 + i) (lo pos (pos / 480 + i) - 480 * (pos / 480 + i)) (lo pos (pos / 480 + i) - 480 * (pos / 480 + i))
      (part l (lo pos (pos / 480 + i) - pos) (hi pos (length l) (pos / 480 + i) - pos)) (part m (lo pos (pos / 480 + i) - pos) (hi pos (length m) (pos / 480 + i) - pos))
      (run_fits pos l (pos / 480 + i) w) (run_fits pos m (pos / 480 + i) (subst (λ (n : ℕ). lo pos (pos / 480 + i) < hi pos n (pos / 480 + i)) size w)))

  -- as many bytes at the same place
  pub put-fronts : Likewise (put_file d f pos l) (put_file e f pos m)
  put-fronts = ⊎_elim
      (λ y. let y' : there e f ≡ true = sym (fronts-there d e A f) ∙ y in
      ⊎_elim
      (λ far. rw (put-far d f pos l y far, put-far e f pos m y' (omega arith)) neither)
      (λ near.
      rw (put_all d f pos l y near, put_all e f pos m y' (omega arith))
      (subst (λ (n : ℕ). Likewise (put_to d f pos l (touched pos (length l))) (put_to e f pos m (touched pos n))) size (to-fronts y near (touched pos (length l)) (omega arith))))
      (lt-or-le longest (pos + length l)))
      (λ n. let n' : there e f ≡ false = sym (fronts-there d e A f) ∙ n in rw (put-missing d f pos l n, put-missing e f pos m n') neither)
      (bool_cases (there d f))

-- bytes over bytes that are there, in one block
over-block : (c : List ℕ) (f : File) (q off : ℕ) (x d : List ℕ) → present c f q ≡ true → off + length x ≤ 480 → write_blk c f q off x ≡ done d → SameFronts c d
unfolding write_blk
over-block c f q off x d p fits e =
    let z : pick (present c f q) (done (put_blk c (data_of c f q) (seal (paste (blk c (data_of c f q)) (24 + off) x)))) (claim c (paste (fresh 2 f q) (24 + off) x))
    ≡ done (put_blk c (data_of c f q) (seal (paste (blk c (data_of c f q)) (24 + off) x))) = rw p in
    subst (SameFronts c) (let t : put_blk c (data_of c f q) (seal (paste (blk c (data_of c f q)) (24 + off) x)) ≡ d = cc in t) (written-fronts c f q off x p fits)

-- and in a run of blocks, within the length: the blocks begin as before
module _ (m : List ℕ) (f : File) (pos : ℕ) (l : List ℕ) (was : there m f ≡ true) (end : pos + length l ≤ length_of m f) (range : pos + length l ≤ longest)
    (here : (q : ℕ) → touches pos (length l) q ≡ true → present m f q ≡ true) where
  over-to : (i : ℕ) (d : List ℕ) → i ≤ touched pos (length l) → put_to m f pos l i ≡ done d → SameFronts m d
  unfolding put_to put_block raise
  over-to zero d g e =
      let r : pick (ltb (length_of m f) (pos + length l)) (set_length m f (pos + length l)) m ≡ m = rw (le-ltb (length_of m f) (pos + length l) end) in
      subst (SameFronts m) (let z : m ≡ d = cc in z) (fronts-refl m)
  over-to (suc i) d g e =
      let q : ℕ = pos / 480 + i in
      let B = bind-is-done (put_to m f pos l i) (λ c. put_block c f pos l (pos / 480 + i)) d e in
      let A : SameFronts m B.0 = over-to i B.0 (omega arith) B.1 in
      let p : present B.0 f q ≡ true = sym (fronts-present m B.0 A f q) ∙ here q (touched-is pos (length l) i g) in
      fronts-next A (over-block B.0 f q (lo pos q - 480 * q) (part l (lo pos q - pos) (hi pos (length l) q - pos)) d p (run_fits pos l q (run-meets pos (length l) i g)) B.2)

  pub over-fronts : (d : List ℕ) → put_file m f pos l ≡ done d → SameFronts m d
  over-fronts d e = over-to (touched pos (length l)) d (omega arith) (sym (put_all m f pos l was range) ∙ e)

-- ---- sound arenas

module _ (d e : List ℕ) (A : SameFronts d e) (ok : sound d ≡ true) (ok' : sound e ≡ true) (D : Bytes d) (E : Bytes e) (same : (g : File) (p : ℕ) → byte_at d g p ≡ byte_at e g p) where
  -- the payload of a data block is bytes of its file
  payload : (k : ℕ) → k < blocks d → tag_of (blk d k) ≡ 2 → (i : ℕ) → i < 480 → get_or (blk d k) (24 + i) 0 ≡ get_or (blk e k) (24 + i) 0
  payload k l t i h =
      let f : File = file_of (blk d k) in
      let q : ℕ = number_of (blk d k) in
      let p : ℕ = 480 * number_of (blk d k) + i in
      let r : p / 480 ≡ number_of (blk d k) = omega arith in
      let u : p % 480 ≡ i = omega arith in
      let at : data_of d f q ≡ k = (sound-at d ok k l).one_number t in
      let at' : data_of e f q ≡ k = sym (fronts-data d e A f q) ∙ at in
      let y : present d f q ≡ true = present-of d f q k l (data-own f q (blk d k) (record { tag = t; number = refl; of = refl })) in
      let y' : present e f q ≡ true = sym (fronts-present d e A f q) ∙ y in
      ap (λ (j : ℕ). get_or (blk d j) (24 + i) 0) (sym at)
      ∙ sym (byte-here d f q y i)
      ∙ ap₂ (byte_in d f) (sym r) (sym u)
      ∙ sym (byte-in d f p)
      ∙ same f p
      ∙ byte-in e f p
      ∙ ap₂ (byte_in e f) r u
      ∙ byte-here e f q y' i
      ∙ ap (λ (j : ℕ). get_or (blk e j) (24 + i) 0) at'

  block_same : (k : ℕ) → k < blocks d → blk d k ≡ blk e k
  block_same k l =
      let m : k < blocks e = omega (arith, A.size) in
      let n : length (blk d k) ≡ 512 = length-blk d k l in
      let n' : length (blk e k) ≡ 512 = length-blk e k m in
      let B : BlockSound (blk d k) = (sound-tidy d ok).each k l in
      let C : BlockSound (blk e k) = (sound-tidy e ok').each k m in
      let t : tag_of (blk d k) ≡ tag_of (blk e k) = A.front k l 0 (omega arith) in
      sym (seal-own (blk d k) n (blk-bytes d k D) B.check)
      ∙ seal-cong (blk d k) (blk e k) n n' (λ j h. ⊎_elim
      (λ low. A.front k l j low)
      (λ (g : 24 ≤ j). ⊎_elim
      (λ (mid : j < 504). elim (ℕ_discrete (tag_of (blk d k)) 2) [
        | yes y ↦ let r : 24 + (j - 24) ≡ j = omega arith in subst (λ (x : ℕ). get_or (blk d k) x 0 ≡ get_or (blk e k) x 0) r (payload k l y (j - 24) (omega arith))
        | no y ↦ B.payload y j g mid ∙ sym (C.payload (λ z. y (t ∙ z)) j g mid)
      ])
      (λ high. B.end j high h ∙ sym (C.end j high h))
      (lt-or-le j 504))
      (lt-or-le j 24))
      ∙ seal-own (blk e k) n' (blk-bytes e k E) C.check

  -- with the same bytes in their files they are the same
  pub fronts-same : d ≡ e
  fronts-same =
      ext_get_or 0 d e A.size (λ i l. ⊎_elim
      (λ low.
      let k : ℕ = i / 512 in
      let q : 512 * (i / 512) + i % 512 ≡ i = omega arith in
      ap (λ (n : ℕ). get_or d n 0) (sym q) ∙ sym (get_or-blk d k (i % 512) (omega arith))
      ∙ ap (λ (b : List ℕ). get_or b (i % 512) 0) (block_same k (omega arith))
      ∙ get_or-blk e k (i % 512) (omega arith) ∙ ap (λ (n : ℕ). get_or e n 0) q)
      (λ g. A.rest i g)
      (lt-or-le i (512 * blocks d)))

-- ---- bytes over bytes that are there: one store after another, and one block

-- where the blocks are there it is done, and they begin as before
pub put-over : (m : List ℕ) (f : File) (pos : ℕ) (l : List ℕ) → there m f ≡ true → pos + length l ≤ length_of m f → pos + length l ≤ longest
    → ((q : ℕ) → touches pos (length l) q ≡ true → present m f q ≡ true) → (d : List ℕ) × (put_file m f pos l ≡ done d) × Put m f pos l d × SameFronts m d
unfolding lacking
put-over m f pos l was end range here =
    let none : count_to (λ i. not (present m f (pos / 480 + i))) (touched pos (length l)) ≡ 0 =
    count_to-none (λ i. not (present m f (pos / 480 + i))) (touched pos (length l)) (λ i h. ap not (here (pos / 480 + i) (touched-is pos (length l) i h))) in
    let P = put-done m f pos l was range (omega arith) in
    (P.0, P.1, P.2, over-fronts m f pos l was end range here P.0 P.1)

-- bytes before those that were written, all of them over bytes that are there
module _ (m : List ℕ) (f : File) (x : ℕ) (l r d : List ℕ) (ok : sound m ≡ true) (B : Bytes m) (bl : Bytes l) (br : Bytes r) (was : there m f ≡ true)
    (end : x + length l + length r ≤ length_of m f) (here : (q : ℕ) → touches x (length l + length r) q ≡ true → present m f q ≡ true) (e : put_file m f (x + length l) r ≡ done d) where
  fits : length_of m f ≤ longest
  fits = length-fits m f B

  both_long : length (l ++ r) ≡ length l + length r
  both_long = length-append l r

  -- blocks that a part of the run touches
  part-here : (y n : ℕ) → x ≤ y → y + n ≤ x + (length l + length r) → (q : ℕ) → touches y n q ≡ true → present m f q ≡ true
  part-here y n g h q t =
      let w : lo y q < hi y n q = ltb-true (lo y q) (hi y n q) t in here q (lt-ltb (lo x q) (hi x (length l + length r) q) (omega arith))

  P : Put m f (x + length l) r d
  P = put_is m f (x + length l) r d e

  A : SameFronts m d
  A = over-fronts m f (x + length l) r was end (omega (arith, fits)) (part-here (x + length l) (length r) (omega arith) (omega arith)) d e

  first : (c : List ℕ) × (put_file d f x l ≡ done c) × Put d f x l c × SameFronts d c
  first =
      put-over d f x l (sym (fronts-there m d A f) ∙ was) (omega (arith, fronts-length m d A f)) (omega (arith, fits))
      (λ q t. sym (fronts-present m d A f q) ∙ part-here x (length l) (omega arith) (omega arith) q t)

  whole : (c : List ℕ) × (put_file m f x (l ++ r) ≡ done c) × Put m f x (l ++ r) c × SameFronts m c
  whole = put-over m f x (l ++ r) was (omega (arith, both_long)) (omega (arith, both_long, fits)) (part-here x (length (l ++ r)) (omega arith) (omega (arith, both_long)))

  get_or-left : (i : ℕ) → i < length l → get_or (l ++ r) i 0 ≡ get_or l i 0
  get_or-left i h = get_or-append l r 0 i h

  get_or-right : (i : ℕ) → length l ≤ i → get_or (l ++ r) i 0 ≡ get_or r (i - length l) 0
  get_or-right i g = ap (λ (n : ℕ). get_or (l ++ r) n 0) (let q : i ≡ length l + (i - length l) = omega arith in q) ∙ get_or-append-add l r (i - length l) 0

  bytes-both : Bytes (l ++ r)
  bytes-both i = ⊎_elim (λ h. rw (get_or-left i h) (bl i)) (λ g. rw (get_or-right i g) (br (i - length l))) (lt-or-le i (length l))

  byte-same : (p : ℕ) → byte_at first.0 f p ≡ byte_at whole.0 f p
  byte-same p =
      let Q : Put d f x l first.0 = first.2 in
      let W : Put m f x (l ++ r) whole.0 = whole.2 in
      ⊎_elim
      (λ low. Q.outside p (λ g. absurd (omega arith)) ∙ P.outside p (λ g. absurd (omega arith)) ∙ sym (W.outside p (λ g. absurd (omega arith))))
      (λ (g : x ≤ p). ⊎_elim
      (λ in-l. Q.inside p g in-l ∙ sym (W.inside p g (omega (arith, both_long)) ∙ get_or-left (p - x) (omega arith)))
      (λ (h : x + length l ≤ p). ⊎_elim
      (λ in-r.
      Q.outside p (λ _. h) ∙ P.inside p h in-r ∙ ap (λ (n : ℕ). get_or r n 0) (let z : p - (x + length l) ≡ p - x - length l = omega arith in z)
      ∙ sym (W.inside p g (omega (arith, both_long)) ∙ get_or-right (p - x) (omega arith)))
      (λ past. Q.outside p (λ _. h) ∙ P.outside p (λ _. past) ∙ sym (W.outside p (λ _. omega (arith, both_long))))
      (lt-or-le p (x + length l + length r)))
      (lt-or-le p (x + length l)))
      (lt-or-le p x)

  -- both are one store
  pub put-before : put_file d f x l ≡ put_file m f x (l ++ r)
  put-before =
      let Q : Put d f x l first.0 = first.2 in
      let W : Put m f x (l ++ r) whole.0 = whole.2 in
      let D : Bytes d = P.bytes B br in
      first.1
      ∙ ap done
      (fronts-same first.0 whole.0 (fronts-next (fronts-sym first.3) (fronts-next (fronts-sym A) whole.3))
      (Q.keeps D bl (P.keeps B br ok)) (W.keeps B bytes-both ok) (Q.bytes D bl) (W.bytes B bytes-both)
      (λ g p. ⊎_elim (λ (h : f ≡ g). subst (λ (k : File). byte_at first.0 k p ≡ byte_at whole.0 k p) h (byte-same p))
      (λ n. (Q.others g n).byte p ∙ (P.others g n).byte p ∙ sym ((W.others g n).byte p)) (file-cases f g)))
      ∙ sym whole.1

-- bytes within one block touch one
pub touched-one : (pos n : ℕ) → 0 < n → (pos + n - 1) / 480 ≡ pos / 480 → touched pos n ≡ 1
unfolding touched
touched-one pos zero l e = absurd (omega arith)
touched-one pos (suc n) l e = let z : pos + suc n - 1 ≡ pos + n = omega arith in omega (arith, ap (λ (x : ℕ). x / 480) z)

-- and are put by storing that block
pub put_one : (d : List ℕ) (f : File) (q at : ℕ) (l : List ℕ) → there d f ≡ true → 480 * q ≤ at → at + length l ≤ 480 * q + 480 → 0 < length l → at + length l ≤ length_of d f
    → at + length l ≤ longest → write_blk d f q (at - 480 * q) l ≡ put_file d f at l
unfolding put_to put_block raise
put_one d f q at l was low high some end range =
    let u : q ≡ at / 480 + 0 = omega arith in
    let r : raise d f (at + length l) ≡ d = rw (le-ltb (length_of d f) (at + length l) end) in
    ap₂ (λ (o : ℕ) (x : List ℕ). write_blk d f q o x) (let z : at - 480 * q ≡ lo at q - 480 * q = omega arith in z)
    (sym (part-whole l (length l) refl) ∙ ap₂ (part l) (let z : 0 ≡ lo at q - at = omega arith in z) (let z : length l ≡ hi at (length l) q - at = omega arith in z))
    ∙ ap (put_block d f at l) u
    ∙ ap (λ (c : List ℕ). put_block c f at l (at / 480 + 0)) (sym r)
    ∙ ap (put_to d f at l) (sym (touched-one at (length l) some (omega arith)))
    ∙ sym (put_all d f at l was range)
