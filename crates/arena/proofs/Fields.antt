-- What the tests of a block say, and that they look at its first 24 bytes alone.
use mathlib.Core.Path.{◌≡◌, sym, ap, ap₂, ◌∙◌}
use mathlib.Core.Bool.{true, false, ◌&&◌}
use mathlib.Core.List.{List}
use mathlib.Core.Logic.{◌≢◌}
use Prim.Native.Nat.{ℕ, ◌+◌, ◌-◌, ◌≤◌, ◌<◌}
use native.Mathlib.Omega.{arith}
use lib.ListN.{length, get_or, drop, length-take, length-drop}
use lib.Dec.{eqb}
use lib.Seq.{ext_get_or}
use borrow.Author.Tests.{eq-eqb, ne_eqb, eqb-true}
use Rattle.base.proofs.Parts.{part-halves}
use Rattle.base.proofs.Sames.{same_true, same-own, same_false}
use Rattle.base.specs.Decides.{same}
use Rattle.base.specs.Parts.{part}
use Rattle.base.proofs.Bools.{and_parts, same_bool}
use Rattle.base.proofs.Lists.{get_d_part}
use Rattle.le.specs.Le.{Bytes, le_at, le_of}
use Rattle.le.proofs.Laws.{le_at-part, le_at-same}
use Rattle.arena.specs.Fields.{File, file, same_file, tag_of, name_of, number_of, file_of, is_free, is_head, is_data}

-- ---- a block's name, compared by its halves

module _ (b nm : List ℕ) (size : length b ≡ 512) where
  number-name : (s : ℕ) → s + 8 ≤ 16 → name_of b ≡ nm → le_at b (4 + s) 8 ≡ le_at nm s 8
  number-name s h e = sym (le_at-part b 4 20 s 8 (omega arith)) ∙ ap (λ (l : List ℕ). le_at l s 8) e

  pub name-low : le_at b 4 8 ≢ le_at nm 0 8 → false ≡ same (name_of b) nm
  name-low ne = sym (same_false (name_of b) nm (λ e. ne (number-name 0 (omega arith) e)))

  pub name-high : length nm ≡ 16 → Bytes b → Bytes nm → le_at b 4 8 ≡ le_at nm 0 8 → eqb (le_at b 12 8) (le_at nm 8 8) ≡ same (name_of b) nm
  name-high k p q low =
      same_bool _ _
      (λ h. same-own (name_of b) nm
      (part-halves b nm 4 k (le_at-same b nm 4 0 8 p q (omega arith) (omega arith) low) (le_at-same b nm 12 8 8 p q (omega arith) (omega arith) (eqb-true _ _ h))))
      (λ h. eq-eqb _ _ (number-name 8 (omega arith) (same_true (name_of b) nm h)))

-- ---- files

pub same_file-true : (f g : File) → same_file f g ≡ true → f ≡ g
unfolding same_file
same_file-true f g e =
    let p = and_parts (eqb f.which g.which) (same f.name g.name) e in
    ap₂ file (eqb-true _ _ p.0) (same_true f.name g.name p.1)

pub same_file-own : (f g : File) → f ≡ g → same_file f g ≡ true
unfolding same_file
same_file-own f g e = rw (eq-eqb f.which g.which (ap (λ (h : File). h.which) e)) (same-own f.name g.name (ap (λ (h : File). h.name) e))

-- ---- what each test says

pub free-is : (b : List ℕ) → is_free b ≡ true → tag_of b ≡ 0
unfolding is_free
free-is b e = eqb-true (tag_of b) 0 e

pub free_own : (b : List ℕ) → tag_of b ≡ 0 → is_free b ≡ true
unfolding is_free
free_own b e = eq-eqb (tag_of b) 0 e

pub free-not : (b : List ℕ) → tag_of b ≢ 0 → is_free b ≡ false
unfolding is_free
free-not b e = ne_eqb (tag_of b) 0 e

pub record HeadIs (f : File) (b : List ℕ) : Type 0 where
  pub tag : tag_of b ≡ 1
  pub of : file_of b ≡ f

pub head-is : (f : File) (b : List ℕ) → is_head f b ≡ true → HeadIs f b
unfolding is_head
head-is f b e =
    let p = and_parts (eqb (tag_of b) 1) (same_file (file_of b) f) e in
    record { tag = eqb-true _ _ p.0; of = same_file-true (file_of b) f p.1 }

pub head-own : (f : File) (b : List ℕ) → HeadIs f b → is_head f b ≡ true
unfolding is_head
head-own f b H = rw (eq-eqb (tag_of b) 1 H.tag) (same_file-own (file_of b) f H.of)

-- a block with another tag is no head
pub head-not : (f : File) (b : List ℕ) → tag_of b ≢ 1 → is_head f b ≡ false
unfolding is_head
head-not f b n = rw (ne_eqb (tag_of b) 1 n)

pub record DataIs (f : File) (q : ℕ) (b : List ℕ) : Type 0 where
  pub tag : tag_of b ≡ 2
  pub number : number_of b ≡ q
  pub of : file_of b ≡ f

pub data_is : (f : File) (q : ℕ) (b : List ℕ) → is_data f q b ≡ true → DataIs f q b
unfolding is_data
data_is f q b e =
    let p = and_parts (eqb (tag_of b) 2) _ e in
    let r = and_parts (eqb (number_of b) q) (same_file (file_of b) f) p.1 in
    record { tag = eqb-true _ _ p.0; number = eqb-true _ _ r.0; of = same_file-true (file_of b) f r.1 }

pub data-own : (f : File) (q : ℕ) (b : List ℕ) → DataIs f q b → is_data f q b ≡ true
unfolding is_data
data-own f q b D = rw (eq-eqb (tag_of b) 2 D.tag, eq-eqb (number_of b) q D.number) (same_file-own (file_of b) f D.of)

pub data-not : (f : File) (q : ℕ) (b : List ℕ) → tag_of b ≢ 2 → is_data f q b ≡ false
unfolding is_data
data-not f q b n = rw (ne_eqb (tag_of b) 2 n)

-- a head is of one file
pub head-one : (f g : File) (b : List ℕ) → is_head f b ≡ true → is_head g b ≡ same_file f g
unfolding is_head
head-one f g b e =
    let H = head-is f b e in
    rw (eq-eqb (tag_of b) 1 H.tag) (ap (λ (h : File). same_file h g) H.of)

-- ---- the first 24 bytes decide

abbrev pub Same24 : List ℕ → List ℕ → Type 0
Same24 b c = (j : ℕ) → j < 24 → get_or b j 0 ≡ get_or c j 0

module _ (b c : List ℕ) (lb : length b ≡ 512) (lc : length c ≡ 512) (h : Same24 b c) where
  part-24 : (s e : ℕ) → e ≤ 24 → part b s e ≡ part c s e
  part-24 s e l =
      let n : length (part b s e) ≡ length (part c s e) = simp (length-take, length-drop) (omega arith) in
      ext_get_or 0 _ _ n
      (λ i k. let m : i < e - s = omega (arith, length-take (e - s) (drop s b)) in get_d_part b s e i m ∙ h (s + i) (omega arith) ∙ sym (get_d_part c s e i m))

  pub tag-cong : tag_of b ≡ tag_of c
  tag-cong = h 0 (omega arith)

  pub number-cong : number_of b ≡ number_of c
  unfolding le_at
  number-cong = ap le_of (part-24 20 24 (omega arith))

  pub file-cong : file_of b ≡ file_of c
  file-cong = ap₂ file (h 1 (omega arith)) (part-24 4 20 (omega arith))

  pub free-cong : is_free b ≡ is_free c
  unfolding is_free
  free-cong = ap (λ (t : ℕ). eqb t 0) tag-cong

  pub head-cong : (f : File) → is_head f b ≡ is_head f c
  unfolding is_head
  head-cong f = ap₂ (λ (t : ℕ) (g : File). eqb t 1 && same_file g f) tag-cong file-cong

  pub data-cong : (f : File) (q : ℕ) → is_data f q b ≡ is_data f q c
  unfolding is_data
  data-cong f q = rw (tag-cong, number-cong) (ap (λ (g : File). eqb (tag_of c) 2 && (eqb (number_of c) q && same_file g f)) file-cong)

-- ---- the number written anew

module _ (b : List ℕ) (n : ℕ) (size : length b ≡ 512) where
  number_fits : 20 + 4 ≤ length b
  number_fits = omega arith
