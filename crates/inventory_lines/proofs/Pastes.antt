-- Bytes laid over an output one after another, and one before those that are there.
use mathlib.Core.Path.{◌≡◌, sym, ap, ap₂, ◌∙◌}
use mathlib.Core.Logic.{⊎_elim}
use mathlib.Core.List.{List, [], ◌∷◌, ◌++◌}
use Prim.Native.Nat.{ℕ, suc, ◌+◌, ◌-◌, ◌≤◌, ◌<◌}
use native.Mathlib.Nat.{eq-or-lt_of_le}
use native.Mathlib.Omega.{arith}
use lib.ListN.{length, get_or, take, drop, set, take-append-drop, length-append, length-set}
use lib.Seq.{get_or-set_same, get_or-set_other, ext_get_or}
use Rattle.base.specs.Parts.{part, paste}
use Rattle.base.proofs.Numbers.{lt-or-le}
use Rattle.base.proofs.Parts.{part-size, part_join, part-one}
use Rattle.base.proofs.Lists.{length_part, length-paste, get_or-paste-in, get_or-paste-out, paste-paste, set-paste}

-- nothing yet
pub paste_none : (a : List ℕ) (s : ℕ) → a ≡ paste a s []
unfolding paste
paste_none a s = sym (ap (λ (m : ℕ). take s a ++ drop m (drop s a)) (let q : s + 0 - s ≡ 0 = omega arith in q) ∙ take-append-drop s a)

-- b stands from s on, and c is laid where it ends
pub lay-on : (a r q : List ℕ) (s e : ℕ) (b c : List ℕ) → r ≡ paste a s b → e ≡ s + length b → q ≡ paste r e c → s + length (b ++ c) ≤ length a → q ≡ paste a s (b ++ c)
lay-on a r q s e b c x y z h =
    z ∙ ap₂ (λ (l : List ℕ) (i : ℕ). paste l i c) x y ∙ paste-paste a s b c (omega (arith, length-append b c))

-- the same, where c is one byte
pub lay-byte : (a r : List ℕ) (s e v : ℕ) (b : List ℕ) → r ≡ paste a s b → e ≡ s + length b → s + length (b ++ (v ∷ [])) ≤ length a → set r e v ≡ paste a s (b ++ (v ∷ []))
lay-byte a r s e v b x y h =
    let n = length-append b (v ∷ []) in
    let m = ap length x ∙ length-paste a s b (omega (arith, n)) in
    lay-on a r (set r e v) s e b (v ∷ []) x y (set-paste r e v (omega (arith, n, m))) h

-- a byte before those that are there
module _ (a : List ℕ) (s v : ℕ) (c : List ℕ) (fits : s + 1 + length c ≤ length a) where
  room : s + length (v ∷ c) ≤ length a
  room = omega arith

  -- at the byte itself, and after it
  before-from : (i : ℕ) → s ≤ i → get_or (set (paste a (s + 1) c) s v) i 0 ≡ get_or (paste a s (v ∷ c)) i 0
  before-from i g =
      ⊎_elim
      (λ (e : s ≡ i). rw (← e) (get_or-set_same (paste a (s + 1) c) s v 0 (omega (arith, length-paste a (s + 1) c fits)) ∙ sym (get_or-paste-in a s (v ∷ c) room 0 (omega arith)) ∙ ap (λ (x : ℕ). get_or (paste a s (v ∷ c)) x 0) (let q : s + 0 ≡ s = omega arith in q)))
      (λ (m : s < i). get_or-set_other (paste a (s + 1) c) s i v 0 (omega arith) ∙ ⊎_elim
      (λ inside. let j : ℕ = i - (s + 1) in let q : s + 1 + j ≡ i = omega arith in let q2 : s + suc j ≡ i = omega arith in
      ap (λ (x : ℕ). get_or (paste a (s + 1) c) x 0) (sym q) ∙ get_or-paste-in a (s + 1) c fits j (omega arith)
      ∙ sym (get_or-paste-in a s (v ∷ c) room (suc j) (omega arith)) ∙ ap (λ (x : ℕ). get_or (paste a s (v ∷ c)) x 0) q2)
      (λ (o : s + 1 + length c ≤ i). get_or-paste-out a (s + 1) c fits i (λ _. o) ∙ sym (get_or-paste-out a s (v ∷ c) room i (λ _. omega arith)))
      (lt-or-le i (s + 1 + length c)))
      (eq-or-lt_of_le g)

  pub lay-before : set (paste a (s + 1) c) s v ≡ paste a s (v ∷ c)
  lay-before =
      ext_get_or 0 _ _ (length-set (paste a (s + 1) c) s v ∙ length-paste a (s + 1) c fits ∙ sym (length-paste a s (v ∷ c) room))
      (λ i l. ⊎_elim
      (λ below. get_or-set_other (paste a (s + 1) c) s i v 0 (omega arith) ∙ get_or-paste-out a (s + 1) c fits i (λ g. absurd (omega arith)) ∙ sym (get_or-paste-out a s (v ∷ c) room i (λ g. absurd (omega arith))))
      (λ g. before-from i g)
      (lt-or-le i s))

-- ---- bytes of the output itself, laid behind them

pub copy-none : (a : List ℕ) (from to : ℕ) → a ≡ paste a to (part a from (from + 0))
copy-none a from to = paste_none a to ∙ ap (paste a to) (sym (part-size a from 0))

-- one more: the byte read is the one that was there at first
pub copy_more :
    (a r : List ℕ) (from to i : ℕ) → from + i < to → to + i < length a → r ≡ paste a to (part a from (from + i)) → set r (to + i) (get_or r (from + i) 0) ≡ paste a to (part a from (from + (i + 1)))
copy_more a r from to i h k e =
    let n : length (part a from (from + i)) ≡ i = length_part a from (from + i) (omega arith) (omega arith) ∙ omega arith in
    let v : get_or r (from + i) 0 ≡ get_or a (from + i) 0 = ap (λ (l : List ℕ). get_or l (from + i) 0) e ∙ get_or-paste-out a to (part a from (from + i)) (omega (arith, n)) (from + i) (λ g. absurd (omega arith)) in
    ap (set r (to + i)) v
    ∙ lay-byte a r to (to + i) (get_or a (from + i) 0) (part a from (from + i)) e (omega (arith, n)) (omega (arith, n, length-append (part a from (from + i)) (get_or a (from + i) 0 ∷ [])))
    ∙ ap (paste a to) (sym (part_join a from i 1 ∙ ap (λ (l : List ℕ). part a from (from + i) ++ l) (part-one a (from + i) (omega arith))))
