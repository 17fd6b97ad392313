-- A write of at most 480 bytes is the length raised, and one or two blocks.
use mathlib.Core.Path.{◌≡◌, refl, sym, ap, ◌∙◌}
use mathlib.Core.Bool.{true, false}
use mathlib.Core.Logic.{⊎_elim}
use mathlib.Core.List.{List}
use Prim.Native.Nat.{ℕ, zero, suc, ◌+◌, ◌-◌, ◌≤◌, ◌<◌, ◌/◌, ◌%◌}
use native.Mathlib.Nat.{add-zero}
use native.Mathlib.Omega.{arith}
use lib.ListN.{length}
use lib.Dec.{ltb}
use borrow.Author.Tests.{lt-ltb, le-ltb, le-leb, lt-leb}
use Rattle.base.proofs.Outs.{bind_done}
use Rattle.base.specs.Out.{Out, done, bind}
use Rattle.base.specs.Search.{pick}
use Rattle.base.proofs.Numbers.{lt-or-le}
use Rattle.le.specs.Le.{le_put}
use Rattle.arena.specs.Blocks.{blk, put_blk}
use Rattle.arena.specs.Fields.{File, number_of, seal}
use Rattle.arena.specs.Places.{head_of}
use Rattle.overlay.specs.View.{view}
use Rattle.overlay.specs.Steps.{Changed, Did, went, stopped}
use Rattle.overlay.proofs.Chains.{Well, changed-more, did-next}
use Rattle.files.specs.Read.{there, length_of}
use Rattle.files.specs.Store.{set_length, raise, put_block, put_to, touched, put_file}

-- the length raised, as the code has it for a head at block k
pub raise-is : (v : List ℕ) (f : File) (k len : ℕ) → k ≡ head_of v f → there v f ≡ true → pick (ltb (number_of (blk v k)) len) (put_blk v k (seal (le_put (blk v k) 20 4 len))) v ≡ raise v f len
unfolding raise length_of set_length
raise-is v f k len e t = rw (t, e) refl

-- ---- which blocks it touches

touched-is : (pos n : ℕ) → 0 < n → touched pos n ≡ (pos + n - 1) / 480 + 1 - pos / 480
unfolding touched
touched-is pos zero l = absurd (omega arith)
touched-is pos (suc n) l = ap (λ (x : ℕ). x / 480 + 1 - pos / 480) (let e : pos + n ≡ pos + suc n - 1 = omega arith in e)

touched-one : (pos n : ℕ) → 0 < n → (pos + n - 1) / 480 ≤ pos / 480 → touched pos n ≡ suc zero
touched-one pos n l h = touched-is pos n l ∙ omega arith

touched-two : (pos n : ℕ) → 0 < n → n ≤ 480 → pos / 480 < (pos + n - 1) / 480 → touched pos n ≡ suc (suc zero)
touched-two pos n l m h = touched-is pos n l ∙ omega arith

-- how many: at most two, and only one where the run stays in one block
pub touched-few : (pos n : ℕ) → n ≤ 480 → touched pos n ≤ 2
unfolding touched
touched-few pos zero m = omega arith
touched-few pos (suc n) m = omega arith

pub touched-within : (pos n : ℕ) → pos % 480 + n ≤ 480 → touched pos n ≤ 1
unfolding touched
touched-within pos zero m = omega arith
touched-within pos (suc n) m = omega arith

-- a byte touches a block, and bytes in two blocks touch both
pub touched-first : (pos n : ℕ) → 0 < n → 1 ≤ touched pos n
unfolding touched
touched-first pos zero l = absurd (omega arith)
touched-first pos (suc n) l = omega arith

pub touched-last : (pos n : ℕ) → 0 < n → pos / 480 < (pos + n - 1) / 480 → 2 ≤ touched pos n
touched-last pos n l h = let e = touched-is pos n l in omega arith

module _ (v : List ℕ) (f : File) (pos : ℕ) (src : List ℕ) where
  -- no bytes: the length alone
  pub put-none : length src ≡ 0 → put_to v f pos src (touched pos (length src)) ≡ done (raise v f (pos + length src))
  unfolding put_to touched
  put-none e = ap (λ (n : ℕ). put_to v f pos src (touched pos n)) e

  to_one : put_to v f pos src (suc zero) ≡ put_block (raise v f (pos + length src)) f pos src (pos / 480)
  unfolding put_to
  to_one = ap (put_block (raise v f (pos + length src)) f pos src) (add-zero (pos / 480))

  -- at most 480 bytes: the first block, and the last where it is another
  pub put_two : 0 < length src → length src ≤ 480 → put_to v f pos src (touched pos (length src)) ≡ bind (put_block (raise v f (pos + length src)) f pos src (pos / 480)) (λ d. pick (ltb (pos / 480) ((pos + length src - 1) / 480)) (put_block d f pos src ((pos + length src - 1) / 480)) (done d))
  unfolding put_to
  put_two l m =
      ⊎_elim
      (λ (h : pos / 480 < (pos + length src - 1) / 480).
      let q : pos / 480 + 1 ≡ (pos + length src - 1) / 480 = omega arith in
      ap (put_to v f pos src) (touched-two pos (length src) l m h)
      ∙ rw (lt-ltb (pos / 480) ((pos + length src - 1) / 480) h, ← q)
      (ap (λ (o : Out (List ℕ)). bind o (λ d. put_block d f pos src (pos / 480 + 1))) to_one))
      (λ h.
      ap (put_to v f pos src) (touched-one pos (length src) l h)
      ∙ to_one
      ∙ rw (le-ltb (pos / 480) ((pos + length src - 1) / 480) h) (sym (bind_done (put_block (raise v f (pos + length src)) f pos src (pos / 480)))))
      (lt-or-le (pos / 480) ((pos + length src - 1) / 480))

-- ---- steps of the code

-- a chain that ends after a step that was done
pub did-end : {o : Out (List ℕ)} {a w u : List ℕ} {m : ℕ} (f : List ℕ → Out (List ℕ)) (k : ℕ) → Well o a w u m → m ≤ k → f (view a u) ≡ done (view a u) → Did (bind o f) a w u k 0
did-end {a = a} {u = u} f k W l e = went {v = view a u} (rw W.is e) (changed-more k l (record { is = refl; fine = W.fine; room = W.room }))

-- a step after a change
pub did_after : {a w u t v : List ℕ} {m n r : ℕ} (f : List ℕ → Out (List ℕ)) (k : ℕ) → Changed a w u v m → m + n ≤ k → Did (f (view a u)) a u t n r → Did (f v) a w t k r
did_after f k c l d = did-next {o = done _} f k (record { is = ap done (sym c.is); fine = c.fine; room = c.room }) l d

-- after the length was raised: no bytes, or one or two blocks
pub did-put-none : {a w u : List ℕ} (f : File) (pos : ℕ) (src : List ℕ) → length src ≡ 0 → Changed a w u (raise (view a w) f (pos + length src)) 1 → Did (put_to (view a w) f pos src (touched pos (length src))) a w u (1 + touched pos (length src)) 0
did-put-none {a = a} {w = w} f pos src e c = went (put-none (view a w) f pos src e) (changed-more (1 + touched pos (length src)) (omega arith) c)

pub did-put-two : {a w u t : List ℕ} {r : ℕ} (f : File) (pos : ℕ) (src : List ℕ) → 0 < length src → length src ≤ 480 → Changed a w u (raise (view a w) f (pos + length src)) 1
    → Did (bind (put_block (view a u) f pos src (pos / 480)) (λ d. pick (ltb (pos / 480) ((pos + length src - 1) / 480)) (put_block d f pos src ((pos + length src - 1) / 480)) (done d))) a u t (touched pos (length src)) r
    → Did (put_to (view a w) f pos src (touched pos (length src))) a w t (1 + touched pos (length src)) r
did-put-two {a = a} {w = w} f pos src l m c d =
    rw (put_two (view a w) f pos src l m)
    (did_after (λ x. bind (put_block x f pos src (pos / 480)) (λ d. pick (ltb (pos / 480) ((pos + length src - 1) / 480)) (put_block d f pos src ((pos + length src - 1) / 480)) (done d))) (1 + touched pos (length src)) c (omega arith) d)

module _ (a w u : List ℕ) (f : File) (pos : ℕ) (src : List ℕ) where
  pub did-missing : there (view a w) f ≡ false → Did (put_file (view a w) f pos src) a w u (1 + touched pos (length src)) 19
  unfolding put_file
  did-missing e = stopped {r = 19} (omega arith) (rw e)

  pub did-long : there (view a w) f ≡ true → 4294967295 < pos + length src → Did (put_file (view a w) f pos src) a w u (1 + touched pos (length src)) 17
  unfolding put_file
  did-long e l = stopped {r = 17} (omega arith) (rw (e, lt-leb (pos + length src) 4294967295 l))

  pub did-put : {r : ℕ} → there (view a w) f ≡ true → pos + length src ≤ 4294967295 → Did (put_to (view a w) f pos src (touched pos (length src))) a w u (1 + touched pos (length src)) r → Did (put_file (view a w) f pos src) a w u (1 + touched pos (length src)) r
  unfolding put_file
  did-put e l d = rw (e, le-leb (pos + length src) 4294967295 l) d
