-- Bytes read by places: a block's payload, and a run in one block or two.
use mathlib.Core.Path.{◌≡◌, refl, sym, ap, ◌∙◌, subst}
use mathlib.Core.Bool.{Bool, true, false}
use mathlib.Core.List.{List}
use Prim.Native.Nat.{ℕ, suc, ◌+◌, ◌*◌, ◌-◌, ◌/◌, ◌%◌, ◌≤◌, ◌<◌}
use native.Mathlib.Nat.{zero-add, add-zero}
use native.Mathlib.Omega.{arith}
use lib.ListN.{length, get_or, replicate}
use lib.Seq.{ext_get_or}
use borrow.Author.Tests.{eq-eqb, ne_eqb}
use Rattle.base.specs.Parts.{part, back, tab}
use Rattle.base.specs.Search.{pick}
use Rattle.base.proofs.Lists.{length_part, get_d_part, length-tab, get_or-tab, tab-cong, tab-zeros, Stored, stored-none}
use Rattle.base.proofs.Parts.{run_more, run-all}
use Rattle.arena.specs.Blocks.{blk, blocks}
use Rattle.arena.specs.Fields.{File}
use Rattle.arena.specs.Places.{data_of}
use Rattle.arena.proofs.Blocks.{get_or-blk}
use Rattle.files.specs.Read.{present, byte_at}
use Rattle.files_laws.proofs.Views.{byte_in, present-at, byte-in}
use Rattle.chains.specs.Led.{block_at}
use Rattle.plans.specs.Plan.{payload_by, byte_by}

-- ---- one block

module _ (a : List ℕ) (c : ℕ) where
  payload-gone : c ≡ 0 → (i : ℕ) → payload_by a c i ≡ 0
  payload-gone z i = rw (eq-eqb c 0 z)

  payload-there : 0 < c → (i : ℕ) → payload_by a c i ≡ get_or (blk a (c - 1)) (24 + i) 0
  payload-there l i = rw (ne_eqb c 0 (λ z. omega arith))

  module _ (off n : ℕ) where
    pub read-gone : c ≡ 0 → replicate n 0 ≡ tab (payload_by a c) off n
    read-gone z = sym (tab-zeros off n) ∙ tab-cong (λ i. 0) (payload_by a c) off off n (λ i l. sym (payload-gone z (off + i)))

    pub read-there : (s e : ℕ) → 0 < c → c ≤ blocks a → off + n ≤ 480 → s ≡ 512 * (c - 1) + 24 + off → e ≡ s + n → part a s e ≡ tab (payload_by a c) off n
    read-there s e l lies fits at end =
        let size : length (part a s e) ≡ n = length_part a s e (omega arith) (omega arith) ∙ omega arith in
        ext_get_or 0 _ _ (size ∙ sym (length-tab (payload_by a c) off n))
        (λ i h.
        let m : i < n = omega (arith, size) in
        let j : s + i ≡ 512 * (c - 1) + (24 + (off + i)) = omega arith in
        get_d_part a s e i (omega arith)
        ∙ ap (λ (x : ℕ). get_or a x 0) j
        ∙ sym (get_or-blk a (c - 1) (24 + (off + i)) (omega arith))
        ∙ sym (payload-there l (off + i))
        ∙ sym (get_or-tab (payload_by a c) off n i m))

-- ---- a file's, where the place is its block's

module _ (a : List ℕ) (f : File) (q c : ℕ) (is : c ≡ block_at a f q) where
  pub place-lies : c ≤ blocks a
  place-lies = go (present a f q) (present-at a f q) is
    where
      go : (b : Bool) → (b ≡ true → data_of a f q < blocks a) → c ≡ pick b (suc (data_of a f q)) 0 → c ≤ blocks a
      go true h e = omega (arith, h refl)
      go false h e = omega arith

  pub payload-is : (i : ℕ) → payload_by a c i ≡ byte_in a f q i
  payload-is i = ap (λ (x : ℕ). payload_by a x i) is ∙ go (present a f q)
    where
      go : (b : Bool) → payload_by a (pick b (suc (data_of a f q)) 0) i ≡ pick b (get_or (blk a (data_of a f q)) (24 + i) 0) 0
      go true = payload-there a (suc (data_of a f q)) (omega arith) i ∙ ap (λ (k : ℕ). get_or (blk a k) (24 + i) 0) (let e : suc (data_of a f q) - 1 ≡ data_of a f q = omega arith in e)
      go false = refl

  -- bytes of block q
  pub payload-run : (off n : ℕ) → off + n ≤ 480 → tab (payload_by a c) off n ≡ tab (byte_at a f) (480 * q + off) n
  payload-run off n fits =
      tab-cong (payload_by a c) (byte_at a f) off (480 * q + off) n
      (λ i l.
      let p : (480 * q + off + i) / 480 ≡ q = omega arith in
      let r : (480 * q + off + i) % 480 ≡ off + i = omega arith in
      payload-is (off + i) ∙ sym (byte-in a f (480 * q + off + i) ∙ (λ x. byte_in a f (p x) (r x))))

-- ---- bytes from p on, of blocks from block q on

-- those of one block, which has place i
pub place-run : (a places : List ℕ) (q p i c off n : ℕ) → c ≡ get_or places i 0 → i ≡ p / 480 - q → off ≡ p % 480 → off + n ≤ 480 → tab (payload_by a c) off n ≡ tab (byte_by a places q) p n
place-run a places q p i c off n is at low fits =
    tab-cong (payload_by a c) (byte_by a places q) off p n
    (λ j l.
    let x : (p + j) / 480 - q ≡ i = omega arith in
    let y : (p + j) % 480 ≡ off + j = omega arith in
    ap (λ (k : ℕ). payload_by a k (off + j)) is ∙ sym (λ v. payload_by a (get_or places (x v) 0) (y v)))

-- ---- a run that is read in one part or two: d is what was there, t and u what was read

pub in-none : (f : ℕ → ℕ) (p : ℕ) (d : List ℕ) → length d ≡ 0 → d ≡ tab f p (length d)
in-none f p d e = run-all (length d) f p d 0 (omega arith) (stored-none (λ j. f (p + j)) d)

module _ (f : ℕ → ℕ) (p n m : ℕ) (d t : List ℕ) (size : length d ≡ n) (few : m ≤ n) (first : t ≡ tab f p m) where
  -- the first part
  pub begun : Stored n (λ j. f (p + j)) (back d 0 m t) m
  begun =
      subst (λ (i : ℕ). Stored n (λ j. f (p + j)) (back d 0 i t) i) (zero-add m)
      (run_more n f p d t 0 m (omega arith) (first ∙ ap (λ (x : ℕ). tab f x m) (sym (add-zero p)))
      (subst (λ (i : ℕ). Stored i (λ j. f (p + j)) d 0) size (stored-none (λ j. f (p + j)) d)))

  pub in_one : m ≡ n → back d 0 m t ≡ tab f p n
  in_one e = run-all n f p (back d 0 m t) m (omega arith) begun

  pub in_two : (u : List ℕ) → u ≡ tab f (p + m) (n - m) → back (back d 0 m t) m n u ≡ tab f p n
  in_two u rest =
      let e : m + (n - m) ≡ n = omega arith in
      run-all n f p (back (back d 0 m t) m n u) n (omega arith)
      (subst (λ (i : ℕ). Stored n (λ j. f (p + j)) (back (back d 0 m t) m i u) i) e (run_more n f p (back d 0 m t) u m (n - m) (omega arith) rest begun))
