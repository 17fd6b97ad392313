-- Texts: what the code's tests and places say of the definition's.
use mathlib.Core.Path.{◌≡◌, refl, sym, ◌∙◌, ap}
use mathlib.Core.Bool.{Bool, true, false, not, ◌&&◌, ◌||◌}
use mathlib.Core.List.{List, [], ◌∷◌}
use Prim.Native.Nat.{ℕ, zero, suc, ◌+◌, ◌<◌, ◌≤◌}
use native.Mathlib.Numerals.{add-one}
use native.Mathlib.Omega.{arith}
use lib.ListN.{length, get_or, take, drop, length-drop}
use lib.Seq.{take-length}
use lib.Dec.{eqb}
use borrow.Author.Tests.{lt-ltb, le-ltb}
use Rattle.base.specs.Count.{all_to, bit}
use Rattle.base.specs.Parts.{part}
use Rattle.base.specs.Decides.{same}
use Rattle.base.specs.Out.{answer, ensure}
use Rattle.base.proofs.Bools.{true-false, or-first, or-second}
use Rattle.base.proofs.Searches.{lowest-le}
use Rattle.utf8.specs.Names.{first_at, name_verdict, early_reason}
use Rattle.sefs.specs.Ask.{good_name}
use Rattle.base.proofs.Counts.{all_to-more, all_to-false}
use Rattle.walk.specs.Walk.{is_slash, from_root, after_root, part_at, split, good_text}
use Rattle.walk_parts.specs.Texts.{end_at, left_of, bound_of}

-- ---- what is left of a text

pub part_end : (l : List ℕ) (s : ℕ) → part l s (length l) ≡ drop s l
part_end l s = ap (λ (n : ℕ). take n (drop s l)) (sym (length-drop s l)) ∙ take-length (drop s l)

pub left-path : (path b : List ℕ) (d from to : ℕ) → d ≡ 0 → left_of path b d from to ≡ part path from to
left-path path b d from to e = rw e

pub left-links : (path b : List ℕ) (d from to : ℕ) → (d ≡ 0 → ⊥) → left_of path b d from to ≡ part b from to
left-links path b zero from to n = absurd (n refl)
left-links path b (suc d) from to n = refl

pub bound-path : (path b : List ℕ) (d : ℕ) → d ≡ 0 → bound_of path b d ≡ length path
bound-path path b d e = rw e

pub bound-links : (path b : List ℕ) (d : ℕ) → (d ≡ 0 → ⊥) → bound_of path b d ≡ length b
bound-links path b zero n = absurd (n refl)
bound-links path b (suc d) n = refl

-- ---- single slashes

pub root-empty : (l : List ℕ) → length l ≡ 0 → false ≡ from_root l
root-empty [] e = refl
root-empty (b ∷ l) e = absurd (omega (arith, e))

pub part_in_lem : (l : List ℕ) (i : ℕ) → i < length l → not (is_slash (get_or l i 0)) ≡ part_at l i
part_in_lem l i h = rw (lt-ltb i (length l) h)

pub part-past : (l : List ℕ) (i : ℕ) → length l ≤ i → false ≡ part_at l i
part-past l i h = rw (le-ltb i (length l) h)

abbrev pub followed : List ℕ → ℕ → Bool
followed l i = not (is_slash (get_or l i 0)) || part_at l (suc i)

pub split-not : (l : List ℕ) → part_at l 0 ≡ false → false ≡ split l
unfolding split
split-not l e = rw e

pub split-stop : (l : List ℕ) (i : ℕ) → i < length l → part_at l 0 ≡ true → followed l i ≡ false → false ≡ split l
unfolding split
split-stop l i h p e = rw (p, all_to-false (followed l) (length l) i h e)

pub split-all : (l : List ℕ) → part_at l 0 ≡ true → all_to (followed l) (length l) ≡ true → true ≡ split l
unfolding split
split-all l p e = rw (p, e)

-- ---- bounds

pub le-path : (path b : List ℕ) (d to : ℕ) → d ≡ 0 → to ≤ bound_of path b d → to ≤ length path
le-path path b d to e h = rw (bound-path path b d e) at h

pub le-links : (path b : List ℕ) (d to : ℕ) → (d ≡ 0 → ⊥) → to ≤ bound_of path b d → to ≤ length b
le-links path b d to n h = rw (bound-links path b d n) at h

-- a leading slash

some_byte : (l : List ℕ) → from_root l ≡ true → 1 ≤ length l
some_byte [] e = absurd (true-false e refl)
some_byte (b ∷ l) e = omega arith

pub root_in : (l : List ℕ) → bit (from_root l) ≤ length l
root_in l = by (from_root l) refl
  where
    by : (b : Bool) → from_root l ≡ b → bit b ≤ length l
    by true e = some_byte l e
    by false e = omega arith

module _ (l : List ℕ) {r : Bool} (e : r ≡ from_root l) where
  pub skip-one : r ≡ true → (1 ≡ bit (from_root l)) × (1 ≤ length l)
  skip-one t = (rw (sym e ∙ t), some_byte l (sym e ∙ t))

  pub skip-none : r ≡ false → (0 ≡ bit (from_root l)) × (0 ≤ length l)
  skip-none t = (rw (sym e ∙ t), omega arith)

-- ---- a slash that no part follows

not-followed : (b r : Bool) → (b && not r) ≡ true → (not b || r) ≡ false
not-followed true true e = absurd (true-false e refl)
not-followed true false e = refl
not-followed false r e = absurd (true-false e refl)

is-followed : (b r : Bool) → (b && not r) ≡ false → (not b || r) ≡ true
is-followed true true e = refl
is-followed true false e = absurd (true-false refl e)
is-followed false r e = refl

module _ (l : List ℕ) (i : ℕ) (h : i < length l) (p : part_at l 0 ≡ true) {r : Bool} (e : r ≡ part_at l (i + 1)) where
  at_suc : part_at l (suc i) ≡ r
  at_suc = ap (part_at l) (sym (add-one i)) ∙ sym e

  pub slash-ends : (is_slash (get_or l i 0) && not r) ≡ true → false ≡ split l
  slash-ends t = split-stop l i h p (rw at_suc (not-followed (is_slash (get_or l i 0)) r t))

  pub slash-goes : (is_slash (get_or l i 0) && not r) ≡ false → all_to (followed l) i ≡ true → all_to (followed l) (i + 1) ≡ true
  slash-goes t a = all_to-more (followed l) i a (rw at_suc (is-followed (is_slash (get_or l i 0)) r t))

pub all_none : (l : List ℕ) → all_to (followed l) 0 ≡ true
unfolding all_to
all_none l = refl

-- ---- a text is good

stops : (b c : Bool) (n : ℕ) → n ≡ answer (ensure b 5) → (n ≡ 0 → ⊥) → n ≡ answer (ensure (b && c) 5)
stops true c n e z = absurd (z e)
stops false c n e z = e

passes : (b c : Bool) (n : ℕ) → n ≡ answer (ensure b 5) → n ≡ 0 → c ≡ true → 0 ≡ answer (ensure (b && c) 5)
passes true c n e z t = rw t
passes false c n e z t = absurd (omega (arith, e, z))

fails : (b c : Bool) → c ≡ false → 5 ≡ answer (ensure (b && c) 5)
fails true c t = rw t
fails false c t = refl

module _ (l : List ℕ) (n : ℕ) (e : n ≡ answer (good_name l)) where
  pub text-name : (n ≡ 0 → ⊥) → n ≡ answer (ensure (good_text l) 5)
  unfolding good_text
  text-name z = stops (eqb (early_reason (name_verdict l)) 0) (same l (47 ∷ []) || split (after_root l)) n e z

  module _ {q : Bool} (f : q ≡ same l (47 ∷ [])) where
    pub text-lone : n ≡ 0 → q ≡ true → 0 ≡ answer (ensure (good_text l) 5)
    unfolding good_text
    text-lone z t = passes (eqb (early_reason (name_verdict l)) 0) (same l (47 ∷ []) || split (after_root l)) n e z (or-first (split (after_root l)) (sym f ∙ t))

    module _ {r : Bool} {s : ℕ} (g : r ≡ split (part l s (length l))) (k : s ≡ bit (from_root l)) where
      after : split (after_root l) ≡ r
      after = ap (λ (i : ℕ). split (drop i l)) (sym k) ∙ ap split (sym (part_end l s)) ∙ sym g

      pub text-parts : n ≡ 0 → r ≡ true → 0 ≡ answer (ensure (good_text l) 5)
      unfolding good_text
      text-parts z t = passes (eqb (early_reason (name_verdict l)) 0) (same l (47 ∷ []) || split (after_root l)) n e z (or-second (same l (47 ∷ [])) (after ∙ t))

      pub text-bad : q ≡ false → r ≡ false → 5 ≡ answer (ensure (good_text l) 5)
      unfolding good_text
      text-bad u t = fails (eqb (early_reason (name_verdict l)) 0) (same l (47 ∷ []) || split (after_root l)) (rw (sym f ∙ u, after ∙ t))

-- ---- the places of a part

pub end-places : (l : List ℕ) (i : ℕ) {r : ℕ} → i ≤ length l → r ≡ first_at 47 (part l i (length l)) → (i + r ≡ end_at l i) × ((i ≤ i + r) × (i + r ≤ length l))
end-places l i h e =
    let m = lowest-le (λ j. eqb (get_or (drop i l) j 0) 47) (length (drop i l)) in
    let f = e ∙ ap (first_at 47) (part_end l i) in
    (ap (λ (x : ℕ). i + x) f, (omega arith, omega (arith, h, f, m, length-drop i l)))
