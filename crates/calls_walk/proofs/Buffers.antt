-- The link buffer: a target laid after those that stand in it, and the parts of path and buffer that are still to be walked.
use mathlib.Core.Path.{◌≡◌, refl, sym, ◌∙◌, ap, ap₂}
use mathlib.Core.List.{List, ◌++◌, append_assoc, append-nil}
use Prim.Native.Nat.{ℕ, zero, suc, ◌+◌, ◌-◌, ◌≤◌}
use native.Mathlib.Omega.{arith}
use lib.ListN.{length, take, drop, length-append, length-take, length-drop, drop_of_length-le, take-append-drop}
use lib.Seq.{take_at, drop_at, drop-drop, take-append-le, drop-append-le, drop-append-add, take_all}
use Rattle.base.specs.Parts.{part, back, paste}
use Rattle.base.proofs.Lists.{length_part}
use Rattle.base.proofs.Parts.{drop-take}
use Rattle.walk_parts.specs.Texts.{left_of, bound_of}
use Rattle.walk_parts.proofs.Splits.{part_end}

-- ---- a target laid at s

pub length-read : (a : List ℕ) (s : ℕ) → s ≤ length a → length (take s a) ≡ s
length-read a s h = length-take s a ∙ omega (arith, h)

module _ (a : List ℕ) (s : ℕ) (l : List ℕ) (h : s + length l ≤ length a) where
  rest_at : drop (s + length l - s) (drop s a) ≡ drop (s + length l) a
  rest_at = drop-drop (s + length l - s) s a ∙ ap (λ (n : ℕ). drop n a) (let q : s + (s + length l - s) ≡ s + length l = omega arith in q)

  as-two : paste a s l ≡ (take s a ++ l) ++ drop (s + length l) a
  unfolding paste
  as-two = ap (λ (x : List ℕ). take s a ++ (l ++ x)) rest_at ∙ sym (append_assoc (take s a) l (drop (s + length l) a))

  read-size : length (take s a ++ l) ≡ s + length l
  read-size = length-append (take s a) l ∙ ap (λ (n : ℕ). n + length l) (length-read a s (omega (arith, h)))

  pub paste-read : take (s + length l) (paste a s l) ≡ take s a ++ l
  paste-read = ap (take (s + length l)) as-two ∙ take_at (take s a ++ l) (drop (s + length l) a) (s + length l) read-size

  pub paste-kept : drop (s + length l) (paste a s l) ≡ drop (s + length l) a
  paste-kept = ap (drop (s + length l)) as-two ∙ drop_at (take s a ++ l) (drop (s + length l) a) (s + length l) read-size

-- it is laid over the part from s on, which comes back
pub back_end : (a : List ℕ) (s : ℕ) (x : List ℕ) → s ≤ length a → back a s (length a) x ≡ take s a ++ x
back_end a s x h = ap (λ (y : List ℕ). take s a ++ (x ++ y)) (drop_of_length-le (drop s a) {i = length a - s} (omega (arith, length-drop s a))) ∙ ap (λ (y : List ℕ). take s a ++ y) (append-nil x)

pub back-own : (a : List ℕ) (s : ℕ) → s ≤ length a → back a s (length a) (part a s (length a)) ≡ a
back-own a s h = back_end a s (part a s (length a)) h ∙ ap (λ (y : List ℕ). take s a ++ y) (part_end a s) ∙ take-append-drop s a

pub back-laid : (a : List ℕ) (s : ℕ) (l : List ℕ) → s + length l ≤ length a → back a s (length a) (paste (part a s (length a)) 0 l) ≡ paste a s l
unfolding paste
back-laid a s l h =
    back_end a s (paste (part a s (length a)) 0 l) (omega (arith, h))
    ∙ ap (λ (y : List ℕ). take s a ++ (l ++ y)) (ap (λ (x : List ℕ). drop (0 + length l - 0) x) (part_end a s) ∙ ap (λ (n : ℕ). drop n (drop s a)) (let q : 0 + length l - 0 ≡ s + length l - s = omega arith in q))

-- ---- parts

pub part-longer : (b l : List ℕ) (s e : ℕ) → s ≤ e → e ≤ length b → part (b ++ l) s e ≡ part b s e
part-longer b l s e h g = ap (take (e - s)) (drop-append-le s b l (omega (arith, h, g))) ∙ take-append-le (e - s) (drop s b) l (omega (arith, h, g, length-drop s b))

pub part-target : (b l : List ℕ) (n s : ℕ) → length b ≡ n → part (b ++ l) (n + s) (n + length l) ≡ drop s l
part-target b l n s e =
    ap (λ (x : List ℕ). take (n + length l - (n + s)) x) (ap (λ (k : ℕ). drop (k + s) (b ++ l)) (sym e) ∙ drop-append-add b l s)
    ∙ take_all (n + length l - (n + s)) (drop s l) (omega (arith, length-drop s l))

pub part-drop : (a : List ℕ) (s e p : ℕ) → drop p (part a s e) ≡ part a (s + p) e
part-drop a s e p = drop-take p (e - s) (drop s a) ∙ ap₂ take (let q : e - s - p ≡ e - (s + p) = omega arith in q) (drop-drop p s a)

-- of path or buffer
pub left-drop : (path b : List ℕ) (d from to p : ℕ) → drop p (left_of path b d from to) ≡ left_of path b d (from + p) to
left-drop path b zero from to p = part-drop path from to p
left-drop path b (suc d) from to p = part-drop b from to p

pub left-longer : (path b l : List ℕ) (d from to : ℕ) → from ≤ to → to ≤ bound_of path b d → left_of path (b ++ l) d from to ≡ left_of path b d from to
left-longer path b l zero from to h g = refl
left-longer path b l (suc d) from to h g = part-longer b l from to h g

pub bound-longer : (path b l : List ℕ) (d : ℕ) → bound_of path b d ≤ bound_of path (b ++ l) d
bound-longer path b l zero = omega arith
bound-longer path b l (suc d) = omega (arith, length-append b l)

pub left-size : (path b : List ℕ) (d from to : ℕ) → from ≤ to → to ≤ bound_of path b d → length (left_of path b d from to) ≡ to - from
left-size path b zero from to h g = length_part path from to h g
left-size path b (suc d) from to h g = length_part b from to h g
