-- The blocks that are stored: what each holds, and that with its check it is sound.
use mathlib.Core.Path.{◌≡◌, sym, ap, ap₂, ◌∙◌, subst}
use mathlib.Core.List.{List}
use mathlib.Core.Logic.{◌≢◌}
use Prim.Native.Nat.{ℕ, ◌+◌, ◌-◌, ◌≤◌, ◌<◌}
use native.Mathlib.Omega.{arith}
use lib.ListN.{length, get_or}
use Rattle.base.proofs.Parts.{paste_all}
use Rattle.base.specs.Parts.{paste}
use Rattle.base.proofs.Lists.{get_d_part, length-paste, get_or-paste-in, get_or-paste-out, part-paste-other}
use Rattle.le.specs.Le.{Bytes, le_put, le_bytes}
use Rattle.le.proofs.Laws.{length-le_bytes, length-le_put, get_or-le_put-out, le_at-le_put-fits, le_put-bytes}
use Rattle.arena.specs.Fields.{File, file, tag_of, which_of, number_of, file_of, seal, fresh}
use Rattle.arena.proofs.Fields.{Same24}
use Rattle.arena.proofs.Fresh.{fresh-tag, fresh-which, fresh-name, fresh-rest}
use Rattle.arena.proofs.Seals.{length-seal, get_or-seal, seal-right, seal-bytes, seal-number, seal-file}
use Rattle.sound.proofs.Sounds.{BlockSound}
use Rattle.files_laws.specs.Laws.{Named}

-- ---- a used block that only lacks its check

pub record Shaped (b : List ℕ) : Type 0 where
  pub used : tag_of b ≢ 0
  pub tag : tag_of b < 3
  pub which : which_of b < 2
  pub pad : (i : ℕ) → 2 ≤ i → i < 4 → get_or b i 0 ≡ 0
  pub name : which_of b ≢ 1 → (i : ℕ) → 4 ≤ i → i < 20 → get_or b i 0 ≡ 0
  pub payload : tag_of b ≢ 2 → (i : ℕ) → 24 ≤ i → i < 504 → get_or b i 0 ≡ 0
  pub end : (i : ℕ) → 504 ≤ i → i < 508 → get_or b i 0 ≡ 0

pub shaped_of : (b : List ℕ) → BlockSound b → tag_of b ≢ 0 → Shaped b
shaped_of b B u = record {
  used = u;
  tag = B.tag;
  which = B.which;
  pad = B.pad;
  name = B.name;
  payload = B.payload;
  end = B.end;
}

-- another number, and in a data block another payload, change nothing of it
pub shaped_like : (b c : List ℕ) → ((j : ℕ) → j < 20 → get_or c j 0 ≡ get_or b j 0) → ((j : ℕ) → 24 ≤ j → j < 508 → (tag_of b ≡ 2 → 504 ≤ j) → get_or c j 0 ≡ get_or b j 0)
    → Shaped b → Shaped c
shaped_like b c low high S =
    let t : tag_of c ≡ tag_of b = low 0 (omega arith) in
    let w : which_of c ≡ which_of b = low 1 (omega arith) in
    record {
      used = λ z. S.used (sym t ∙ z);
      tag = subst (λ (x : ℕ). x < 3) (sym t) S.tag;
      which = subst (λ (x : ℕ). x < 2) (sym w) S.which;
      pad = λ i g l. low i (omega arith) ∙ S.pad i g l;
      name = λ n i g l. low i (omega arith) ∙ S.name (λ z. n (w ∙ z)) i g l;
      payload = λ n i g l. high i g (omega arith) (λ z. absurd (n (t ∙ z))) ∙ S.payload (λ z. n (t ∙ z)) i g l;
      end = λ i g l. high i (omega arith) l (λ _. g) ∙ S.end i g l;
    }

pub shaped-seal : (b : List ℕ) → length b ≡ 512 → Bytes b → Shaped b → BlockSound (seal b)
shaped-seal b size h S =
    let s : (j : ℕ) → j < 508 → get_or (seal b) j 0 ≡ get_or b j 0 = get_or-seal b size in
    let t : tag_of (seal b) ≡ tag_of b = s 0 (omega arith) in
    let w : which_of (seal b) ≡ which_of b = s 1 (omega arith) in
    record {
      tag = subst (λ (x : ℕ). x < 3) (sym t) S.tag;
      which = subst (λ (x : ℕ). x < 2) (sym w) S.which;
      pad = λ i g l. s i (omega arith) ∙ S.pad i g l;
      name = λ n i g l. s i (omega arith) ∙ S.name (λ z. n (w ∙ z)) i g l;
      payload = λ n i g l. s i (omega arith) ∙ S.payload (λ z. n (t ∙ z)) i g l;
      end = λ i g l. s i l ∙ S.end i g l;
      check = seal-right b size h;
      free = λ z. absurd (S.used (sym t ∙ z));
    }

-- a new block
pub shaped_fresh : (tag : ℕ) (f : File) (n : ℕ) → Named f → tag ≢ 0 → tag < 3 → Shaped (fresh tag f n)
shaped_fresh tag f n N u l =
    let t : tag_of (fresh tag f n) ≡ tag = fresh-tag tag f n N.size in
    let w : which_of (fresh tag f n) ≡ f.which = fresh-which tag f n N.size in
    record {
      used = λ z. u (sym t ∙ z);
      tag = subst (λ (x : ℕ). x < 3) (sym t) l;
      which = subst (λ (x : ℕ). x < 2) (sym w) N.kind;
      pad = λ i g m. fresh-rest tag f n N.size i (omega arith) (λ x. absurd (omega arith));
      name = λ o i g m.
          let q : 4 + (i - 4) ≡ i = omega arith in
          ap (λ (x : ℕ). get_or (fresh tag f n) x 0) (sym q) ∙ sym (get_d_part (fresh tag f n) 4 20 (i - 4) (omega arith))
          ∙ ap (λ (x : List ℕ). get_or x (i - 4) 0) (fresh-name tag f n N.size) ∙ N.zero (λ z. o (w ∙ z)) (i - 4);
      payload = λ o i g m. fresh-rest tag f n N.size i (omega arith) (λ x. g);
      end = λ i g m. fresh-rest tag f n N.size i (omega arith) (λ x. omega arith);
    }

-- ---- a head with another length

module _ (b : List ℕ) (len : ℕ) (size : length b ≡ 512) where
  room : 20 + 4 ≤ length b
  room = omega arith

  size' : length (le_put b 20 4 len) ≡ 512
  size' = length-le_put b 20 4 len room ∙ size

  pub length-head : length (seal (le_put b 20 4 len)) ≡ 512
  length-head = length-seal (le_put b 20 4 len) size'

  pub head-out : (j : ℕ) → j < 508 → (20 ≤ j → 24 ≤ j) → get_or (seal (le_put b 20 4 len)) j 0 ≡ get_or b j 0
  head-out j l h = get_or-seal (le_put b 20 4 len) size' j l ∙ get_or-le_put-out b 20 4 len room j h

  pub head-number : len < 4294967296 → number_of (seal (le_put b 20 4 len)) ≡ len
  head-number l = seal-number (le_put b 20 4 len) size' ∙ le_at-le_put-fits b 20 4 len room l

  pub head-file : file_of (seal (le_put b 20 4 len)) ≡ file_of b
  unfolding le_put
  head-file =
      seal-file (le_put b 20 4 len) size'
      ∙ ap₂ file (get_or-le_put-out b 20 4 len room 1 (λ g. absurd (omega arith))) (part-paste-other b 20 (le_bytes 4 len) (omega (arith, length-le_bytes 4 len)) 4 20 (λ _. omega arith))

  pub head_bytes : Bytes b → Bytes (seal (le_put b 20 4 len))
  head_bytes h = seal-bytes (le_put b 20 4 len) size' (le_put-bytes b 20 4 len room h)

  pub head-sound : Bytes b → Shaped b → BlockSound (seal (le_put b 20 4 len))
  head-sound h S =
      shaped-seal (le_put b 20 4 len) size' (le_put-bytes b 20 4 len room h)
      (shaped_like b (le_put b 20 4 len)
      (λ j l. get_or-le_put-out b 20 4 len room j (λ g. absurd (omega arith)))
      (λ j g l _. get_or-le_put-out b 20 4 len room j (λ _. g))
      S)

-- ---- a data block with other bytes in its payload

module _ (b : List ℕ) (off : ℕ) (src : List ℕ) (size : length b ≡ 512) (fits : off + length src ≤ 480) where
  span : 24 + off + length src ≤ length b
  span = omega arith

  size'' : length (paste b (24 + off) src) ≡ 512
  size'' = length-paste b (24 + off) src span ∙ size

  pub length-written : length (seal (paste b (24 + off) src)) ≡ 512
  length-written = length-seal (paste b (24 + off) src) size''

  pub written-24 : Same24 (seal (paste b (24 + off) src)) b
  written-24 j l = get_or-seal (paste b (24 + off) src) size'' j (omega arith) ∙ get_or-paste-out b (24 + off) src span j (λ g. absurd (omega arith))

  -- the bytes that were laid over, and the others
  pub written_in : (i : ℕ) → off ≤ i → i < off + length src → get_or (seal (paste b (24 + off) src)) (24 + i) 0 ≡ get_or src (i - off) 0
  written_in i g l =
      let q : 24 + i ≡ 24 + off + (i - off) = omega arith in
      get_or-seal (paste b (24 + off) src) size'' (24 + i) (omega arith)
      ∙ ap (λ (x : ℕ). get_or (paste b (24 + off) src) x 0) q
      ∙ get_or-paste-in b (24 + off) src span (i - off) (omega arith)

  pub written_out : (i : ℕ) → i < 480 → (off ≤ i → off + length src ≤ i) → get_or (seal (paste b (24 + off) src)) (24 + i) 0 ≡ get_or b (24 + i) 0
  written_out i l h =
      get_or-seal (paste b (24 + off) src) size'' (24 + i) (omega arith) ∙ get_or-paste-out b (24 + off) src span (24 + i) (λ g. omega (arith, h (omega arith)))

  pub written-bytes : Bytes b → Bytes src → Bytes (seal (paste b (24 + off) src))
  written-bytes h k = seal-bytes (paste b (24 + off) src) size'' (paste_all (λ x. x < 256) b (24 + off) src span h k)

  pub written-sound : Bytes b → Bytes src → tag_of b ≡ 2 → Shaped b → BlockSound (seal (paste b (24 + off) src))
  written-sound h k t S =
      shaped-seal (paste b (24 + off) src) size'' (paste_all (λ x. x < 256) b (24 + off) src span h k)
      (shaped_like b (paste b (24 + off) src)
      (λ j l. get_or-paste-out b (24 + off) src span j (λ g. absurd (omega arith)))
      (λ j g l h'. get_or-paste-out b (24 + off) src span j (λ _. omega (arith, h' t)))
      S)
