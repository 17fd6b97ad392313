-- The laws of block k and of block k replaced: all that is needed of the flat list.
use mathlib.Core.Path.{◌≡◌, sym, ap, ap₂, ◌∙◌, subst}
use mathlib.Core.Bool.{true}
use mathlib.Core.List.{List}
use mathlib.Core.Logic.{◌≢◌}
use Prim.Native.Nat.{ℕ, ◌+◌, ◌*◌, ◌/◌, ◌%◌, ◌≤◌, ◌<◌}
use native.Mathlib.Omega.{arith}
use lib.ListN.{length, get_or}
use lib.Dec.{eqb, leb}
use lib.Seq.{ext_get_or}
use borrow.Author.Tests.{eqb-true, leb-true}
use Rattle.base.proofs.Parts.{part-all, paste_all}
use Rattle.base.specs.Parts.{part, back, paste}
use Rattle.base.proofs.Bools.{and_parts}
use Rattle.base.proofs.Lists.{get_or-paste-out, length_part, get_d_part, length-paste, part-paste, part-paste-other}
use Rattle.le.specs.Le.{Bytes}
use Rattle.arena.specs.Blocks.{blk, put_blk, blocks, legal}

-- a block that is there has 512 bytes
pub length-blk : (a : List ℕ) (k : ℕ) → k < blocks a → length (blk a k) ≡ 512
unfolding blk
length-blk a k h = length_part a (512 * k) (512 * k + 512) (omega arith) (omega arith) ∙ omega arith

-- byte i of block k
pub get_or-blk : (a : List ℕ) (k i : ℕ) → i < 512 → get_or (blk a k) i 0 ≡ get_or a (512 * k + i) 0
unfolding blk
get_or-blk a k i l = get_d_part a (512 * k) (512 * k + 512) i (omega arith)

pub blk-bytes : (a : List ℕ) (k : ℕ) → Bytes a → Bytes (blk a k)
unfolding blk
blk-bytes a k h = part-all (λ x. x < 256) a (omega arith) h (512 * k) (512 * k + 512)

-- a block put is 512 bytes laid over
put_blk-is : (a : List ℕ) (k : ℕ) (b : List ℕ) → length b ≡ 512 → put_blk a k b ≡ paste a (512 * k) b
unfolding put_blk paste
put_blk-is a k b e = ap (λ (n : ℕ). back a (512 * k) (512 * k + n) b) (sym e)

module _ (a : List ℕ) (k : ℕ) (b : List ℕ) (there : k < blocks a) (size : length b ≡ 512) where
  fits : 512 * k + length b ≤ length a
  fits = omega arith

  is : put_blk a k b ≡ paste a (512 * k) b
  is = put_blk-is a k b size

  pub length-put_blk : length (put_blk a k b) ≡ length a
  length-put_blk = ap length is ∙ length-paste a (512 * k) b fits

  pub blocks-put_blk : blocks (put_blk a k b) ≡ blocks a
  blocks-put_blk = ap (λ (n : ℕ). n / 512) length-put_blk

  pub blk-put_blk-same : blk (put_blk a k b) k ≡ b
  unfolding blk
  blk-put_blk-same =
      ap₂ (λ (l : List ℕ) (n : ℕ). part l (512 * k) (512 * k + n)) is (sym size) ∙ part-paste a (512 * k) b fits

  pub blk-put_blk-other : (j : ℕ) → j ≢ k → blk (put_blk a k b) j ≡ blk a j
  unfolding blk
  blk-put_blk-other j ne =
      ap (λ (l : List ℕ). part l (512 * j) (512 * j + 512)) is
      ∙ part-paste-other a (512 * k) b fits (512 * j) (512 * j + 512) (λ l. omega arith)

  -- a byte outside of block k
  pub get_or-put_blk : (i : ℕ) → (512 * k ≤ i → 512 * k + 512 ≤ i) → get_or (put_blk a k b) i 0 ≡ get_or a i 0
  get_or-put_blk i h = ap (λ (l : List ℕ). get_or l i 0) is ∙ get_or-paste-out a (512 * k) b fits i (λ g. omega (arith, h g))

  pub put_blk-bytes : Bytes a → Bytes b → Bytes (put_blk a k b)
  put_blk-bytes p q = subst Bytes (sym is) (paste_all (λ x. x < 256) a (512 * k) b fits p q)

-- two arenas of whole blocks that have the same blocks are the same
pub ext-blk : (a c : List ℕ) → length a % 512 ≡ 0 → length a ≡ length c → ((k : ℕ) → k < blocks a → blk a k ≡ blk c k) → a ≡ c
ext-blk a c w e h =
    ext_get_or 0 _ _ e
    (λ i l.
    let k : ℕ = i / 512 in
    let r : ℕ = i % 512 in
    let q : 512 * (i / 512) + i % 512 ≡ i = omega arith in
    ap (λ (n : ℕ). get_or a n 0) (sym q) ∙ sym (get_or-blk a k r (omega arith))
    ∙ ap (λ (b : List ℕ). get_or b r 0) (h k (omega arith))
    ∙ get_or-blk c k r (omega arith) ∙ ap (λ (n : ℕ). get_or c n 0) q)

-- what a legal length is
pub record Legal (a : List ℕ) : Type 0 where
  pub whole : length a ≡ 512 * blocks a
  pub least : 16 ≤ blocks a
  pub most : blocks a ≤ 4096

pub legal-is : (a : List ℕ) → legal a ≡ true → Legal a
unfolding legal
legal-is a e =
    let p = and_parts (eqb (length a % 512) 0) _ e in
    let q = and_parts (leb 16 (blocks a)) (leb (blocks a) 4096) p.1 in
    record { whole = omega (arith, eqb-true (length a % 512) 0 p.0); least = leb-true _ _ q.0; most = leb-true _ _ q.1 }
