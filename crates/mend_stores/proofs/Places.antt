-- Where heads and data blocks are: which of them stay in their places when a file goes, and when a block of a file is written.
use mathlib.Core.Path.{◌≡◌, refl, sym, ap, ap₂, ◌∙◌, subst}
use mathlib.Core.Bool.{Bool, true, false}
use mathlib.Core.List.{List}
use mathlib.Core.Logic.{◌≢◌, ⊎_elim}
use Prim.Native.Nat.{ℕ, suc, ◌+◌, ◌*◌, ◌-◌, ◌/◌, ◌≤◌, ◌<◌, max, min}
use native.Mathlib.Omega.{arith}
use lib.ListN.{length}
use borrow.Author.Tests.{lt-ltb}
use Rattle.base.specs.Out.{done, kept}
use Rattle.base.specs.Parts.{part, paste}
use Rattle.base.specs.Search.{pick}
use Rattle.base.proofs.Bools.{bool_cases, true-false}
use Rattle.base.proofs.Lists.{length_part}
use Rattle.arena.specs.Blocks.{blk, put_blk, blocks}
use Rattle.arena.specs.Fields.{File, is_head, is_data, seal, fresh}
use Rattle.arena.specs.Places.{free_of, head_of, data_of}
use Rattle.arena.proofs.Blocks.{length-blk, blocks-put_blk, blk-put_blk-same, blk-put_blk-other}
use Rattle.arena.proofs.Fields.{data_is, head-not, head-cong, data-cong}
use Rattle.arena.proofs.Fresh.{length-fresh, fresh-data}
use Rattle.arena.proofs.Places.{test-put_blk}
use Rattle.files.specs.Read.{there, present}
use Rattle.files.specs.Store.{longest, claim, write_blk, lo, hi, put_block, is_of, clear_all}
use Rattle.files_laws.proofs.Views.{there-at, present-at, present-not, data-at, heads-same, there-same, datas-same, present-same}
use Rattle.files_laws.proofs.Shapes.{length-written, written-24}
use Rattle.files_laws.proofs.Steps.{Stranger, zeros-stranger, other-stranger, name-size}
use Rattle.files_laws.proofs.Clears.{clear-size, clear-each}
use Rattle.files_laws.proofs.Claims.{free-head, wrote-new}
use Rattle.files_laws.proofs.Drop.{of-file}
use Rattle.chains.specs.Led.{head_at, block_at}

-- two arenas whose blocks say the same of a file's head, or of one of its blocks
module _ (a d : List ℕ) (size : blocks d ≡ blocks a) (g : File) where
  heads-stay : ((k : ℕ) → k < blocks a → is_head g (blk d k) ≡ is_head g (blk a k)) → head_at d g ≡ head_at a g
  heads-stay h = ap₂ (λ (b : Bool) (k : ℕ). pick b (suc k) 0) (there-same a d size g h) (heads-same a d size g h)

  blocks-stay : (q : ℕ) → ((k : ℕ) → k < blocks a → is_data g q (blk d k) ≡ is_data g q (blk a k)) → block_at d g q ≡ block_at a g q
  blocks-stay q h = ap₂ (λ (b : Bool) (k : ℕ). pick b (suc k) 0) (present-same a d size g q h) (datas-same a d size g q h)

-- the head of a file that is there: k is one more than its number
module _ (d : List ℕ) (f : File) (was : there d f ≡ true) (k : ℕ) (is : k ≡ head_at d f) where
  at_head : k ≡ suc (head_of d f)
  at_head = is ∙ ap (λ (b : Bool). pick b (suc (head_of d f)) 0) was

  pub head-some : 0 < k
  head-some = omega (arith, at_head)

  pub head-number : k - 1 ≡ head_of d f
  head-number = omega (arith, at_head)

  pub head-below : k - 1 < blocks d
  head-below = omega (arith, head-number, there-at d f was)

-- ---- file f goes: nothing of another file moves

module _ (a : List ℕ) (f g : File) (apart : f ≢ g) where
  gone : (c : List ℕ) → is_of f c ≡ true → Stranger g c
  gone c e = other-stranger f g c (of-file f c e) apart

  same_size : blocks (clear_all (is_of f) a) ≡ blocks a
  same_size = ap (λ (n : ℕ). n / 512) (clear-size (is_of f) a)

  pub drop-heads : head_at (clear_all (is_of f) a) g ≡ head_at a g
  drop-heads = heads-stay a (clear_all (is_of f) a) same_size g (clear-each (is_of f) a (λ x c. is_head g x ≡ is_head g c) (λ c e. (zeros-stranger g).head ∙ sym (gone c e).head) (λ c e. refl))

  pub drop-blocks : (q : ℕ) → block_at (clear_all (is_of f) a) g q ≡ block_at a g q
  drop-blocks q = blocks-stay a (clear_all (is_of f) a) same_size g q (clear-each (is_of f) a (λ x c. is_data g q x ≡ is_data g q c) (λ c e. (zeros-stranger g).block q ∙ sym ((gone c e).block q)) (λ c e. refl))

-- ---- bytes are written in block q of file f: in the block that is there, or in the lowest free one

pub record Laid (a d : List ℕ) (f : File) (q : ℕ) : Type 0 where
  pub heads : (g : File) → head_at d g ≡ head_at a g
  pub rest : (r : ℕ) → r ≢ q → block_at d f r ≡ block_at a f r
  pub old : present a f q ≡ true → block_at d f q ≡ block_at a f q
  pub new : present a f q ≡ false → block_at d f q ≡ free_of a + 1

-- the part of a run that lies in block q fits there
part-fits : (pos n q l h : ℕ) → l ≡ max pos (480 * q) → h ≡ min (pos + n) (480 * q + 480) → pos ≤ 480 * q + 480 → 480 * q ≤ pos + n
    → (l - pos ≤ h - pos) × ((h - pos ≤ n) × (l - 480 * q + (h - pos - (l - pos)) ≤ 480))
part-fits pos n q l h el eh x y = (omega arith, (omega arith, omega arith))

module _ (a : List ℕ) (f : File) (pos : ℕ) (src : List ℕ) (q : ℕ) (was : there a f ≡ true) (range : pos + length src ≤ longest) (low : pos ≤ 480 * q + 480) (high : 480 * q ≤ pos + length src) where
  abbrev off : ℕ
  off = lo pos q - 480 * q

  abbrev some : List ℕ
  some = part src (lo pos q - pos) (hi pos (length src) q - pos)

  fits : lo pos q - 480 * q + length (part src (lo pos q - pos) (hi pos (length src) q - pos)) ≤ 480
  fits =
      let p = part-fits pos (length src) q (lo pos q) (hi pos (length src) q) refl refl low high in
      subst (λ (n : ℕ). lo pos q - 480 * q + n ≤ 480) (sym (length_part src (lo pos q - pos) (hi pos (length src) q - pos) p.0 p.1.0)) p.1.1

  -- where it is there
  module _ (yes : present a f q ≡ true) where
    abbrev k : ℕ
    k = data_of a f q

    abbrev b : List ℕ
    b = seal (paste (blk a k) (24 + off) some)

    at : data_of a f q < blocks a
    at = present-at a f q yes

    size-old : length (blk a (data_of a f q)) ≡ 512
    size-old = length-blk a k at

    size-b : length b ≡ 512
    size-b = length-written (blk a k) off some size-old fits

    laid-old : Laid a (put_blk a k b) f q
    laid-old =
        let each : (r : ℕ) → block_at (put_blk a k b) f r ≡ block_at a f r = λ r. blocks-stay a (put_blk a k b) (blocks-put_blk a k b at size-b) f r (λ j _. test-put_blk a k b at size-b (is_data f r) (data-cong b (blk a k) size-b size-old (written-24 (blk a k) off some size-old fits) f r) j) in
        record {
          heads = λ g. heads-stay a (put_blk a k b) (blocks-put_blk a k b at size-b) g (λ j _. test-put_blk a k b at size-b (is_head g) (head-cong b (blk a k) size-b size-old (written-24 (blk a k) off some size-old fits) g) j);
          rest = λ r _. each r;
          old = λ _. each q;
          new = λ no. absurd (true-false yes no);
        }

    put-is-old : put_block a f pos src q ≡ done (put_blk a k b)
    unfolding put_block write_blk
    put-is-old = rw yes refl

  -- where it is absent
  module _ (no : present a f q ≡ false) (room : free_of a < blocks a) where
    abbrev n : List ℕ
    n = seal (paste (fresh 2 f q) (24 + off) some)

    small : q < 4294967296
    small = omega arith

    size-fresh : length (fresh 2 f q) ≡ 512
    size-fresh = length-fresh 2 f q (name-size a f was)

    size-n : length n ≡ 512
    size-n = length-written (fresh 2 f q) off some size-fresh fits

    is-data : is_data f q n ≡ true
    is-data = data-cong n (fresh 2 f q) size-n size-fresh (written-24 (fresh 2 f q) off some size-fresh fits) f q ∙ fresh-data f q (name-size a f was) small

    no-head : (g : File) → is_head g n ≡ is_head g (blk a (free_of a))
    no-head g = head-not g n (λ e. absurd (omega (arith, (data_is f q n is-data).tag))) ∙ sym (free-head a room g)

    laid-new : Laid a (put_blk a (free_of a) n) f q
    laid-new =
        let W = wrote-new a f q off some was no room fits small in
        let size = blocks-put_blk a (free_of a) n room size-n in
        record {
          heads = λ g. heads-stay a (put_blk a (free_of a) n) size g (λ j _. test-put_blk a (free_of a) n room size-n (is_head g) (no-head g) j);
          rest = λ r d. ap₂ (λ (b : Bool) (k : ℕ). pick b (suc k) 0) (W.rest r d) (W.place r d);
          old = λ yes. absurd (true-false yes no);
          new = λ _.
              ap₂ (λ (b : Bool) (k : ℕ). pick b (suc k) 0) W.here
              (data-at (put_blk a (free_of a) n) f q (free_of a) (omega (arith, size))
              (λ j l. ap (is_data f q) (blk-put_blk-other a (free_of a) n room size-n j (λ e. omega arith)) ∙ present-not a f q no j (omega arith))
              (ap (is_data f q) (blk-put_blk-same a (free_of a) n room size-n) ∙ is-data))
              ∙ omega arith;
        }

    put-is-new : put_block a f pos src q ≡ done (put_blk a (free_of a) n)
    unfolding put_block write_blk claim
    put-is-new = rw (no, lt-ltb (free_of a) (blocks a) room) refl

  pub laid : (d : List ℕ) → (present a f q ≡ false → free_of a < blocks a) → put_block a f pos src q ≡ done d → Laid a d f q
  laid d room e =
      ⊎_elim
      (λ yes. subst (λ (x : List ℕ). Laid a x f q) (ap (kept a) (sym (put-is-old yes) ∙ e)) (laid-old yes))
      (λ no. subst (λ (x : List ℕ). Laid a x f q) (ap (kept a) (sym (put-is-new no (room no)) ∙ e)) (laid-new no (room no)))
      (bool_cases (present a f q))
