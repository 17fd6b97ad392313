-- The laws of names.
use mathlib.Core.Path.{◌≡◌, refl, sym, ap, ◌∙◌, subst}
use mathlib.Core.Logic.{⊎_elim}
use mathlib.Core.Bool.{Bool, true, false, ◌&&◌}
use Rattle.std.specs.Cmp.Lexicographic.{pointwise}
use Rattle.std.specs.List.{position, position_or_len}
use Rattle.std.specs.Prelude.{unwrap_or}
use Rattle.std.proofs.lemmas.List.Sums.{position_or_len_is}
use mathlib.Core.List.{List, [], ◌∷◌, ◌++◌, append-nil}
use Prim.Native.Nat.{ℕ, ◌+◌, ◌-◌, ◌≤◌, ◌<◌}
use native.Mathlib.Omega.{arith}
use lib.Dec.{eqb, ltb}
use lib.ListN.{length, get_or, take, drop, replicate, length-append, length-replicate, length-drop, drop_of_length-le, get_or-replicate, get_or-append}
use lib.Seq.{take-append_seam, drop-append_seam, length-take-le, get_or-take, get_or-append-add}
use borrow.Author.Tests.{eq-eqb, ne_eqb, eqb-true, eqb-false, ltb-false, lt-ltb, le-ltb}
use Rattle.base.proofs.Sames.{decided-yes}
use Rattle.base.specs.Parts.{part, back}
use Rattle.base.specs.Search.{lowest, pick}
use Rattle.base.specs.Decides.{Decides, same}
use Rattle.base.proofs.Numbers.{lt-or-le}
use Rattle.base.proofs.Searches.{lowest-here, lowest-none, lowest-le, lowest-hit, lowest-first}
use Rattle.base.proofs.Tests.{decides-same}
use Rattle.base.proofs.Bools.{or-first, or-second, bool_cases, true-false, true-T}
use Rattle.utf8.specs.declared.NameVerdict.{NameVerdict}
use Rattle.utf8.specs.declared.NameVerdict.TheVariants.{Good, Slashed, Bad}
use Rattle.utf8.specs.declared.StoredName.TheVariants.{Ended, Broken}
use Rattle.utf8.specs.Utf8.{utf8}
use Rattle.utf8.specs.Grammar.{Octets}
use Rattle.utf8.specs.Names.{first_at, zero_at, has_zero, has_slash, name_of, name_verdict, GoodName, NoSlash, early_reason, new_reason, stored_name, EndedAt, asked, is_named, is_dot, is_dots, is_special, name_bytes}
use Rattle.utf8.proofs.Grammar.{utf8-decides}

-- ---- two names

-- the tests of `==` and of the definition
pub same_pointwise : (l m : List ℕ) → pointwise eqb l m ≡ same l m
unfolding same
same_pointwise [] [] = refl
same_pointwise [] (y ∷ m) = refl
same_pointwise (x ∷ l) [] = refl
same_pointwise (x ∷ l) (y ∷ m) = ap (λ (b : Bool). eqb x y && b) (same_pointwise l m)

-- ---- the first byte b

pub first-here : (b : ℕ) (l : List ℕ) (i : ℕ) → i < length l → ((j : ℕ) → j < i → get_or l j 0 ≡ b → ⊥) → get_or l i 0 ≡ b → i ≡ first_at b l
first-here b l i h before e = lowest-here (λ j. eqb (get_or l j 0) b) (length l) i h (λ j m. ne_eqb (get_or l j 0) b (before j m)) (eq-eqb (get_or l i 0) b e)

pub first-none : (b : ℕ) (l : List ℕ) → ((j : ℕ) → j < length l → get_or l j 0 ≡ b → ⊥) → first_at b l ≡ length l
first-none b l before = sym (lowest-none (λ j. eqb (get_or l j 0) b) (length l) (λ j m. ne_eqb (get_or l j 0) b (before j m)))

-- no byte before it is b
first-before : (b : ℕ) (l : List ℕ) (j : ℕ) → j < first_at b l → get_or l j 0 ≡ b → ⊥
first-before b l j h = eqb-false (get_or l j 0) b ((lowest-first (λ j. eqb (get_or l j 0) b) (length l)).before j h)

-- the search of `position`
first-position : (b : ℕ) (l : List ℕ) → position_or_len (λ x. eqb x b) l ≡ first_at b l
first-position b l =
    let p : ℕ → Bool = λ j. eqb (get_or l j 0) b in
    position_or_len_is (λ x. eqb x b) l (first_at b l) 0 (lowest-le p (length l)) (lowest-first p (length l)).before (lowest-hit p (length l))

pub position-first : (b : ℕ) (l : List ℕ) → unwrap_or (position (λ x. eqb x b) l) (length l) ≡ first_at b l
position-first b l =
    rw (first-position b l)
    (⊎_elim
    (λ here. rw (lt-ltb (first_at b l) (length l) here))
    (λ none. rw (le-ltb (first_at b l) (length l) none) (omega (arith, lowest-le (λ j. eqb (get_or l j 0) b) (length l))))
    (lt-or-le (first_at b l) (length l)))

-- ---- the first zero

-- the search for it
pub zero_at-first : (l : List ℕ) → zero_at l ≡ first_at 0 l
unfolding zero_at
zero_at-first l = refl

zero_at-here : (l : List ℕ) (i : ℕ) → i < length l → ((j : ℕ) → j < i → get_or l j 0 ≡ 0 → ⊥) → get_or l i 0 ≡ 0 → i ≡ zero_at l
unfolding zero_at
zero_at-here l = first-here 0 l

zero_at-none : (l : List ℕ) → ((j : ℕ) → j < length l → get_or l j 0 ≡ 0 → ⊥) → zero_at l ≡ length l
unfolding zero_at
zero_at-none l = first-none 0 l

pub zero_at-le : (l : List ℕ) → zero_at l ≤ length l
unfolding zero_at
zero_at-le l = lowest-le (λ j. eqb (get_or l j 0) 0) (length l)

zero_at-before : (l : List ℕ) (j : ℕ) → j < zero_at l → get_or l j 0 ≡ 0 → ⊥
unfolding zero_at
zero_at-before l = first-before 0 l

pub zero_at-zero : (l : List ℕ) → zero_at l < length l → get_or l (zero_at l) 0 ≡ 0
unfolding zero_at
zero_at-zero l h = eqb-true (get_or l (lowest (λ j. eqb (get_or l j 0) 0) (length l)) 0) 0 (lowest-hit (λ j. eqb (get_or l j 0) 0) (length l) h)

-- ---- the verdict on a caller's name, by cases

pub verdict-zero : (l : List ℕ) → zero_at l < length l → name_verdict l ≡ Bad
unfolding name_verdict has_zero
verdict-zero l h = rw (lt-ltb (zero_at l) (length l) h)

pub verdict-wrong : (l : List ℕ) → utf8 l ≡ false → name_verdict l ≡ Bad
unfolding name_verdict
verdict-wrong l e = rw (e, or-second (has_zero l) refl)

pub verdict-slashed : (l : List ℕ) → length l ≤ zero_at l → utf8 l ≡ true → first_at 47 l < length l → name_verdict l ≡ Slashed (ltb 255 (length l))
unfolding name_verdict has_zero has_slash
verdict-slashed l h e s = rw (le-ltb (zero_at l) (length l) h, e, lt-ltb (first_at 47 l) (length l) s)

pub verdict-good : (l : List ℕ) → length l ≤ zero_at l → utf8 l ≡ true → length l ≤ first_at 47 l → name_verdict l ≡ Good (ltb 255 (length l))
unfolding name_verdict has_zero has_slash
verdict-good l h e s = rw (le-ltb (zero_at l) (length l) h, e, le-ltb (first_at 47 l) (length l) s)

-- ---- the name that a slot holds, by cases; k is the first zero

pub stored-ended : (s : List ℕ) (k : ℕ) → k ≡ zero_at s → k < length s → utf8 (take k s) ≡ true → stored_name s ≡ Ended k
unfolding stored_name has_zero
stored-ended s k z h e = rw (← z, lt-ltb k (length s) h, e)

pub stored_wrong : (s : List ℕ) (k : ℕ) → k ≡ zero_at s → k < length s → utf8 (take k s) ≡ false → stored_name s ≡ Broken
unfolding stored_name has_zero
stored_wrong s k z h e = rw (← z, lt-ltb k (length s) h, e)

pub stored-open : (s : List ℕ) (k : ℕ) → k ≡ zero_at s → length s ≤ k → stored_name s ≡ Broken
unfolding stored_name has_zero
stored-open s k z h = rw (← z, le-ltb k (length s) h)

-- ---- a stored name beside a caller's

pub named-empty : (s n : List ℕ) (k : ℕ) → k ≡ zero_at s → length n ≡ 0 → is_named s n ≡ same (take k s) (46 ∷ [])
unfolding is_named
named-empty s [] k z e = rw (← z)
named-empty s (b ∷ n) k z e = absurd (omega arith)

pub named_other : (s n : List ℕ) (k : ℕ) → k ≡ zero_at s → (length n ≡ 0 → ⊥) → is_named s n ≡ same (take k s) n
unfolding is_named
named_other s [] k z e = absurd (e refl)
named_other s (b ∷ n) k z e = rw (← z)

-- ---- what the verdicts say

utf8-octets : {l : List ℕ} → utf8 l ≡ true → Octets l
utf8-octets {l} e = (utf8-decides l).right (true-T (utf8 l) e)

-- a name has no slash exactly where the search finds none
pub slash-says : (l : List ℕ) → has_slash l ≡ false → NoSlash l
unfolding has_slash
slash-says l e j h = first-before 47 l j (omega (arith, ltb-false (first_at 47 l) (length l) e))

pub slash-is : (l : List ℕ) → NoSlash l → has_slash l ≡ false
unfolding has_slash
slash-is l n = le-ltb (first_at 47 l) (length l) (omega (arith, first-none 47 l n))

-- reason 5 is not given exactly to good names, and as new names to those alone that have no slash; a good one is long where it is over 255 bytes
pub verdict-is : (l : List ℕ) → GoodName l → name_verdict l ≡ pick (has_slash l) (Slashed (ltb 255 (length l))) (Good (ltb 255 (length l)))
unfolding name_verdict has_zero
verdict-is l g = rw (le-ltb (zero_at l) (length l) (omega (arith, zero_at-none l g.no_zero)), decided-yes (utf8-decides l) g.octets)

-- what is not bad is good
not-bad : (l : List ℕ) (v : NameVerdict) → name_verdict l ≡ v → (v ≡ Bad → ⊥) → GoodName l
not-bad l v q n =
    ⊎_elim
    (λ zero. absurd (n (sym q ∙ verdict-zero l zero)))
    (λ none. ⊎_elim
    (λ u. record { no_zero = λ j h. zero_at-before l j (omega arith); octets = utf8-octets u })
    (λ u. absurd (n (sym q ∙ verdict-wrong l u)))
    (bool_cases (utf8 l)))
    (lt-or-le (zero_at l) (length l))

pub verdict-says : (l : List ℕ) (long : Bool) → name_verdict l ≡ Good long → GoodName l × (has_slash l ≡ false) × (long ≡ ltb 255 (length l))
verdict-says l long v = by-slash (has_slash l) refl
  where
    g : GoodName l
    g = not-bad l (Good long) v (λ e. let z : ◌≡◌ {A = ℕ} 0 1 = cc in omega arith)

    by-slash : (b : Bool) → has_slash l ≡ b → GoodName l × (has_slash l ≡ false) × (long ≡ ltb 255 (length l))
    by-slash true s = absurd
        (let f : Good long ≡ Slashed (ltb 255 (length l)) = sym v ∙ verdict-is l g ∙ ap (λ (b : Bool). pick b (Slashed (ltb 255 (length l))) (Good (ltb 255 (length l)))) s in
        let z : ◌≡◌ {A = ℕ} 0 1 = cc in omega arith)
    by-slash false s =
        let f : Good long ≡ Good (ltb 255 (length l)) = sym v ∙ verdict-is l g ∙ ap (λ (b : Bool). pick b (Slashed (ltb 255 (length l))) (Good (ltb 255 (length l)))) s in
        (g, s, cc)

pub slashed-says : (l : List ℕ) (long : Bool) → name_verdict l ≡ Slashed long → GoodName l × (has_slash l ≡ true) × (long ≡ ltb 255 (length l))
slashed-says l long v = by-slash (has_slash l) refl
  where
    g : GoodName l
    g = not-bad l (Slashed long) v (λ e. let z : ◌≡◌ {A = ℕ} 0 1 = cc in omega arith)

    by-slash : (b : Bool) → has_slash l ≡ b → GoodName l × (has_slash l ≡ true) × (long ≡ ltb 255 (length l))
    by-slash true s =
        let f : Slashed long ≡ Slashed (ltb 255 (length l)) = sym v ∙ verdict-is l g ∙ ap (λ (b : Bool). pick b (Slashed (ltb 255 (length l))) (Good (ltb 255 (length l)))) s in
        (g, s, cc)
    by-slash false s = absurd
        (let f : Slashed long ≡ Good (ltb 255 (length l)) = sym v ∙ verdict-is l g ∙ ap (λ (b : Bool). pick b (Slashed (ltb 255 (length l))) (Good (ltb 255 (length l)))) s in
        let z : ◌≡◌ {A = ℕ} 0 1 = cc in omega arith)

-- ---- what the reasons leave

pub early-good : (l : List ℕ) → early_reason (name_verdict l) ≡ 0 → GoodName l
early-good l e = go (name_verdict l) refl e
  where
    go : (v : NameVerdict) → name_verdict l ≡ v → early_reason v ≡ 0 → GoodName l
    go (Good long) q z = (verdict-says l long q).0
    go (Slashed long) q z = (slashed-says l long q).0
    go Bad q z = absurd (omega arith)

pub new-good : (l : List ℕ) → new_reason (name_verdict l) ≡ 0 → GoodName l × (has_slash l ≡ false)
new-good l e = go (name_verdict l) refl e
  where
    go : (v : NameVerdict) → name_verdict l ≡ v → new_reason v ≡ 0 → GoodName l × (has_slash l ≡ false)
    go (Good long) q z = let s = verdict-says l long q in (s.0, s.1)
    go (Slashed long) q z = absurd (omega arith)
    go Bad q z = absurd (omega arith)

-- a name that is not special is none of the three
pub not-special : (l : List ℕ) → is_special l ≡ false → (length l ≡ 0 → ⊥) × ((l ≡ 46 ∷ [] → ⊥) × (l ≡ 46 ∷ 46 ∷ [] → ⊥))
unfolding is_special is_dot is_dots
not-special l e = (
  λ z. true-false (or-first _ (eq-eqb (length l) 0 z)) e,
  (
    λ z. true-false (or-second (eqb (length l) 0) (or-first _ (decided-yes (decides-same l (46 ∷ [])) z))) e,
    λ z. true-false (or-second (eqb (length l) 0) (or-second (same l (46 ∷ [])) (decided-yes (decides-same l (46 ∷ 46 ∷ [])) z))) e,
  ),
)

-- the name in a slot is ended at k exactly where the verdict says so
pub stored_is : (s : List ℕ) (k : ℕ) → EndedAt s k → stored_name s ≡ Ended k
stored_is s k e =
    stored-ended s k
    (zero_at-here s k e.inside (λ j h z. e.good.no_zero j (omega (arith, length-take-le k s (omega (arith, e.inside)))) (get_or-take k s j 0 h ∙ z)) e.zero)
    e.inside
    (decided-yes (utf8-decides (take k s)) e.good.octets)

pub stored-says : (s : List ℕ) (k : ℕ) → stored_name s ≡ Ended k → EndedAt s k
stored-says s k v =
    ⊎_elim
    (λ inside. ⊎_elim
    (λ u. subst (EndedAt s) (at_zero inside u) (record { inside = inside; zero = zero_at-zero s inside; good = good u }))
    (λ u. absurd (let f : Ended k ≡ Broken = sym v ∙ stored_wrong s (zero_at s) refl inside u in let z : ◌≡◌ {A = ℕ} 0 1 = cc in omega arith))
    (bool_cases (utf8 (name_of s))))
    (λ none. absurd (let f : Ended k ≡ Broken = sym v ∙ stored-open s (zero_at s) refl none in let z : ◌≡◌ {A = ℕ} 0 1 = cc in omega arith))
    (lt-or-le (zero_at s) (length s))
  where
    at_zero : zero_at s < length s → utf8 (name_of s) ≡ true → zero_at s ≡ k
    at_zero inside u = let f : Ended (zero_at s) ≡ Ended k = sym (stored-ended s (zero_at s) refl inside u) ∙ v in cc

    size : length (name_of s) ≡ zero_at s
    size = length-take-le (zero_at s) s (zero_at-le s)

    good : utf8 (name_of s) ≡ true → GoodName (name_of s)
    good u = record {
      no_zero = λ j h z. zero_at-before s j (omega (arith, size)) (sym (get_or-take (zero_at s) s j 0 (omega (arith, size))) ∙ z);
      octets = utf8-octets u;
    }

-- a stored name is the one asked for exactly where its bytes are
pub named-decides : (s n : List ℕ) → Decides (is_named s n) (name_of s ≡ asked n)
unfolding is_named
named-decides s n = decides-same (name_of s) (asked n)

-- ---- the bytes of a new name

-- x laid over the front, which is the name, and zeros over the rest
pub name-laid : (name out x z : List ℕ) → x ≡ name → length out ≡ 256 → length name ≤ 255
    → z ≡ replicate (length (part (x ++ drop (length name) out) (length name) (length (x ++ drop (length name) out)))) 0
    → back (x ++ drop (length name) out) (length name) (length (x ++ drop (length name) out)) z ≡ name_bytes name
unfolding name_bytes
name-laid name out x z p h k e =
    let n : ℕ = length name in
    let d : length (drop n out) ≡ 256 - n = length-drop n out ∙ omega arith in
    let w : length (name ++ drop n out) ≡ n + (256 - n) = length-append name (drop n out) ∙ omega arith in
    let g : length (take (n + (256 - n) - n) (drop n out)) ≡ 256 - n = length-take-le (n + (256 - n) - n) (drop n out) (omega arith) ∙ omega arith in
    let f : z ++ drop (n + (256 - n) - n) (drop n out) ≡ replicate (256 - n) 0
    = rw (drop_of_length-le (drop n out) {i = n + (256 - n) - n} (omega arith), append-nil) (rw (p, w, drop-append_seam) at e ∙ ap (λ (m : ℕ). replicate m 0) g) in
    rw (p, w, take-append_seam, drop-append_seam, f)

pub length-name_bytes : (n : List ℕ) → length n ≤ 256 → length (name_bytes n) ≡ 256
unfolding name_bytes
length-name_bytes n h = length-append n (replicate (256 - length n) 0) ∙ omega (arith, length-replicate {A = ℕ} (256 - length n) 0)

-- a good name of at most 255 bytes in its 256 bytes
module _ (n : List ℕ) (g : GoodName n) (short : length n ≤ 255) where
  -- the first zero is the one after it
  pub zero_at-name_bytes : zero_at (name_bytes n) ≡ length n
  unfolding name_bytes
  zero_at-name_bytes =
      sym
      (zero_at-here (name_bytes n) (length n) (omega (arith, length-name_bytes n (omega arith)))
      (λ j h z. g.no_zero j h (sym (get_or-append n (replicate (256 - length n) 0) 0 j h) ∙ z))
      (ap (λ (i : ℕ). get_or (name_bytes n) i 0) (let e : length n ≡ length n + 0 = omega arith in e)
      ∙ get_or-append-add n (replicate (256 - length n) 0) 0 0
      ∙ get_or-replicate (256 - length n) 0 0 0 (omega arith)))

  pub name_of-name_bytes : name_of (name_bytes n) ≡ n
  unfolding name_bytes
  name_of-name_bytes = ap (λ (k : ℕ). take k (name_bytes n)) zero_at-name_bytes ∙ take-append_seam n (replicate (256 - length n) 0)

  -- it is read back
  pub stored-name_bytes : stored_name (name_bytes n) ≡ Ended (length n)
  unfolding name_bytes
  stored-name_bytes =
      stored-ended (name_bytes n) (length n) (sym zero_at-name_bytes) (omega (arith, length-name_bytes n (omega arith)))
      (ap utf8 (take-append_seam n (replicate (256 - length n) 0)) ∙ decided-yes (utf8-decides n) g.octets)

-- a name that is not empty asks for itself
pub asked-own : (n : List ℕ) → (length n ≡ 0 → ⊥) → asked n ≡ n
asked-own [] e = absurd (e refl)
asked-own (b ∷ n) e = refl
