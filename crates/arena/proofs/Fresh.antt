-- What a block of zeros and a new block hold.
use mathlib.Core.Path.{◌≡◌, refl, sym, ap, ap₂, ◌∙◌, subst}
use mathlib.Core.Bool.{true}
use mathlib.Core.List.{List}
use mathlib.Core.Logic.{⊎_elim}
use Prim.Native.Nat.{ℕ, ◌+◌, ◌≤◌, ◌<◌}
use native.Mathlib.Omega.{arith}
use native.Mathlib.Decide.{ℕ_discrete}
use lib.ListN.{length, get_or, set, replicate, length-set, length-replicate, get_or-replicate, get_or-eq_default}
use lib.Seq.{get_or-set_same, get_or-set_other, set_out, ext_get_or}
use Rattle.base.proofs.Parts.{paste_all}
use Rattle.base.specs.Parts.{part, back, paste}
use Rattle.base.proofs.Lists.{length-paste, get_or-paste-out, part-paste, part-paste-other}
use Rattle.base.proofs.Numbers.{lt-or-le}
use Rattle.le.specs.Le.{Bytes, le_at, le_put, le_bytes}
use Rattle.le.proofs.Laws.{length-le_bytes, length-le_put, get_or-le_put-out, le_at-le_put-fits, le_put-bytes}
use Rattle.arena.specs.Fields.{File, file, file_of, tag_of, which_of, name_of, number_of, is_head, is_data, zeros, fresh}
use Rattle.arena.proofs.Fields.{head-own, data-own}

-- ---- zeros

pub length-zeros : length zeros ≡ 512
unfolding zeros
length-zeros = length-replicate {A = ℕ} 512 0

pub get_or-zeros : (j : ℕ) → get_or zeros j 0 ≡ 0
unfolding zeros
get_or-zeros j =
    ⊎_elim (λ l. get_or-replicate 512 j 0 0 l) (λ g. get_or-eq_default (replicate 512 0) 0 {n = j} (omega (arith, length-replicate {A = ℕ} 512 0))) (lt-or-le j 512)

-- 512 bytes that are all zero
pub zeros-is : (b : List ℕ) → length b ≡ 512 → ((j : ℕ) → j < 512 → get_or b j 0 ≡ 0) → b ≡ zeros
zeros-is b e h = ext_get_or 0 _ _ (e ∙ sym length-zeros) (λ j l. h j (omega arith) ∙ sym (get_or-zeros j))

pub zeros-bytes : Bytes zeros
zeros-bytes j = rw (get_or-zeros j) (omega arith)

-- ---- a byte set

pub set-bytes : (l : List ℕ) (i v : ℕ) → Bytes l → v < 256 → Bytes (set l i v)
set-bytes l i v h k j = elim (ℕ_discrete j i) [
  | yes e ↦ ⊎_elim
      (λ m. subst (λ (x : ℕ). get_or (set l i v) x 0 < 256) (sym e) (rw (get_or-set_same l i v 0 m) k))
      (λ g. rw (set_out l i v g) (h j))
      (lt-or-le i (length l))
  | no ne ↦ rw (get_or-set_other l i j v 0 ne) (h j)
]

-- ---- a new block: its tag, its file, its number, and zeros

module _ (tag : ℕ) (f : File) (n : ℕ) (size : length f.name ≡ 16) where
  front : List ℕ
  front = set (set zeros 0 tag) 1 f.which

  named : List ℕ
  named = paste front 4 f.name

  length_front : length front ≡ 512
  unfolding front
  length_front = simp length-set length-zeros

  name-fits : 4 + length f.name ≤ length front
  name-fits = omega (arith, length_front)

  length-named : length named ≡ 512
  unfolding named
  length-named = length-paste front 4 f.name name-fits ∙ length_front

  number_fits : 20 + 4 ≤ length named
  number_fits = omega (arith, length-named)

  fresh-is : fresh tag f n ≡ le_put named 20 4 n
  unfolding fresh named front
  fresh-is = refl

  pub length-fresh : length (fresh tag f n) ≡ 512
  length-fresh = ap length fresh-is ∙ length-le_put named 20 4 n number_fits ∙ length-named

  -- a byte before the name, and one after the number
  get_d_fresh : (j : ℕ) → (4 ≤ j → 24 ≤ j) → get_or (fresh tag f n) j 0 ≡ get_or front j 0
  unfolding named
  get_d_fresh j h =
      ap (λ (l : List ℕ). get_or l j 0) fresh-is
      ∙ get_or-le_put-out named 20 4 n number_fits j (λ g. h (omega arith))
      ∙ get_or-paste-out front 4 f.name name-fits j (λ g. omega (arith, h g))

  pub fresh-tag : tag_of (fresh tag f n) ≡ tag
  unfolding front
  fresh-tag =
      get_d_fresh 0 (λ g. absurd (omega arith)) ∙ get_or-set_other (set zeros 0 tag) 1 0 f.which 0 (omega arith) ∙ get_or-set_same zeros 0 tag 0 (omega (arith, length-zeros))

  pub fresh-which : which_of (fresh tag f n) ≡ f.which
  unfolding front
  fresh-which = get_d_fresh 1 (λ g. absurd (omega arith)) ∙ get_or-set_same (set zeros 0 tag) 1 f.which 0 (omega (arith, length-zeros, length-set zeros 0 tag))

  pub fresh-rest : (j : ℕ) → 1 < j → (4 ≤ j → 24 ≤ j) → get_or (fresh tag f n) j 0 ≡ 0
  unfolding front
  fresh-rest j g h =
      get_d_fresh j h ∙ get_or-set_other (set zeros 0 tag) 1 j f.which 0 (omega arith) ∙ get_or-set_other zeros 0 j tag 0 (omega arith) ∙ get_or-zeros j

  pub fresh-name : name_of (fresh tag f n) ≡ f.name
  unfolding le_put named
  fresh-name =
      ap (λ (l : List ℕ). part l 4 20) fresh-is
      ∙ part-paste-other named 20 (le_bytes 4 n) (omega (arith, length-le_bytes 4 n, number_fits)) 4 20 (λ _. omega arith)
      ∙ ap (λ (k : ℕ). part named 4 (4 + k)) (sym size)
      ∙ part-paste front 4 f.name name-fits

  pub fresh-number : n < 4294967296 → number_of (fresh tag f n) ≡ n
  fresh-number l = ap (λ (x : List ℕ). le_at x 20 4) fresh-is ∙ le_at-le_put-fits named 20 4 n number_fits l

  pub fresh-file : file_of (fresh tag f n) ≡ f
  fresh-file = ap₂ file fresh-which fresh-name

  pub fresh-bytes : tag < 256 → f.which < 256 → Bytes f.name → Bytes (fresh tag f n)
  unfolding named front
  fresh-bytes t w h =
      subst Bytes (sym fresh-is)
      (le_put-bytes named 20 4 n number_fits
      (paste_all (λ x. x < 256) front 4 f.name name-fits (set-bytes (set zeros 0 tag) 1 f.which (set-bytes zeros 0 tag zeros-bytes t) w) h))

-- a new head, and a new data block
pub fresh-head : (f : File) (n : ℕ) → length f.name ≡ 16 → is_head f (fresh 1 f n) ≡ true
fresh-head f n s = head-own f (fresh 1 f n) (record { tag = fresh-tag 1 f n s; of = fresh-file 1 f n s })

pub fresh-data : (f : File) (q : ℕ) → length f.name ≡ 16 → q < 4294967296 → is_data f q (fresh 2 f q) ≡ true
fresh-data f q s l = data-own f q (fresh 2 f q) (record { tag = fresh-tag 2 f q s; number = fresh-number 2 f q s l; of = fresh-file 2 f q s })

-- as the code makes it
pub make-is : (x y z nm : List ℕ) (m tag w n : ℕ) → m ≡ 512 → length nm ≡ 16 → x ≡ replicate m 0 → y ≡ nm → z ≡ le_put (back (set (set x 0 tag) 1 w) 4 20 y) 20 4 n → z ≡ fresh tag (file w nm) n
unfolding fresh zeros paste
make-is x y z nm m tag w n e s a b d =
    d
    ∙ ap₂ (λ (l k : List ℕ). le_put (back (set (set l 0 tag) 1 w) 4 20 k) 20 4 n) (a ∙ ap (λ (i : ℕ). replicate i 0) e) b
    ∙ ap (λ (i : ℕ). le_put (back (set (set zeros 0 tag) 1 w) 4 (4 + i) nm) 20 4 n) (sym s)
