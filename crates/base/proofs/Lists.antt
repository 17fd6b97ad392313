-- The laws of parts, pastes, fills and tables.
use mathlib.Core.Path.{◌≡◌, refl, ap, ◌∙◌, sym}
use mathlib.Core.Logic.{⊎_elim}
use mathlib.Core.List.{List, [], ◌∷◌, ◌++◌}
use Prim.Native.Nat.{ℕ, zero, suc, ◌+◌, ◌≤◌, ◌<◌, ◌-◌}
use native.Mathlib.Nat.{eq-or-lt_of_le, add-zero, zero-add}
use native.Mathlib.Omega.{arith}
use lib.ListN.{length, get_or, take, drop, set, replicate, length-set, length-append, length-take, length-drop, length-replicate, get_or-replicate, get_or-append}
use lib.Seq.{get_or-set_same, get_or-set_other, get_or-take, get_or-drop, get_or-append-add, ext_get_or, length-take-le}
use Rattle.base.specs.Parts.{part, paste, tab}
use Rattle.base.proofs.Numbers.{lt-or-le}

-- ---- parts

pub length_part : (a : List ℕ) (s e : ℕ) → s ≤ e → e ≤ length a → length (part a s e) ≡ e - s
length_part a s e h k = simp (length-take, length-drop) (omega arith)

pub get_d_part : (a : List ℕ) (s e i : ℕ) → i < e - s → get_or (part a s e) i 0 ≡ get_or a (s + i) 0
get_d_part a s e i l = get_or-take (e - s) (drop s a) i 0 l ∙ get_or-drop s a i 0

-- ---- b laid over a from s on
module _ (a : List ℕ) (s : ℕ) (b : List ℕ) (fits : s + length b ≤ length a) where
  len-front : length (take s a) ≡ s
  len-front = length-take-le s a (omega arith)

  pub length-paste : length (paste a s b) ≡ length a
  unfolding paste
  length-paste = simp (length-append, length-take, length-drop) (omega arith)

  pub get_or-paste-in : (i : ℕ) → i < length b → get_or (paste a s b) (s + i) 0 ≡ get_or b i 0
  unfolding paste
  get_or-paste-in i l =
      let m : ℕ = s + length b - s in
      ap (λ (n : ℕ). get_or (take s a ++ (b ++ drop m (drop s a))) n 0) (let e : s + i ≡ length (take s a) + i = omega (arith, len-front) in e)
      ∙ get_or-append-add (take s a) (b ++ drop m (drop s a)) i 0
      ∙ get_or-append b (drop m (drop s a)) 0 i l

  pub get_or-paste-out : (i : ℕ) → (s ≤ i → s + length b ≤ i) → get_or (paste a s b) i 0 ≡ get_or a i 0
  unfolding paste
  get_or-paste-out i h =
      ⊎_elim
      (λ l. get_or-append (take s a) _ 0 i (omega (arith, len-front)) ∙ get_or-take s a i 0 l)
      (λ g.
      let r : ℕ = i - (s + length b) in
      let m : ℕ = s + length b - s in
      let e : i ≡ length (take s a) + (length b + r) = omega (arith, len-front, h g) in
      let f : s + (m + r) ≡ i = omega (arith, h g) in
      ap (λ (j : ℕ). get_or (take s a ++ (b ++ drop m (drop s a))) j 0) e
      ∙ get_or-append-add (take s a) (b ++ drop m (drop s a)) (length b + r) 0
      ∙ get_or-append-add b (drop m (drop s a)) r 0
      ∙ get_or-drop m (drop s a) r 0
      ∙ get_or-drop s a (m + r) 0
      ∙ ap (λ (j : ℕ). get_or a j 0) f)
      (lt-or-le i s)

  -- what was laid there is read there
  pub part-paste : part (paste a s b) s (s + length b) ≡ b
  part-paste =
      let n : length (part (paste a s b) s (s + length b)) ≡ length b = length_part (paste a s b) s (s + length b) (omega arith) (omega (arith, length-paste)) ∙ omega arith in
      ext_get_or 0 _ _ n
      (λ i l. let k : i < length b = omega (arith, n) in get_d_part (paste a s b) s (s + length b) i (omega arith) ∙ get_or-paste-in i k)

  -- a part that it does not touch
  pub part-paste-other : (t e : ℕ) → (t < s + length b → e ≤ s) → part (paste a s b) t e ≡ part a t e
  part-paste-other t e h =
      let n : length (part (paste a s b) t e) ≡ length (part a t e) = simp (length-take, length-drop, length-paste) refl in
      ext_get_or 0 _ _ n
      (λ i l.
      let k : i < e - t = omega (arith, simp (length-take, length-drop) at l) in
      get_d_part (paste a s b) t e i k ∙ get_or-paste-out (t + i) (λ g. out i k g) ∙ sym (get_d_part a t e i k))
    where
      out : (i : ℕ) → i < e - t → s ≤ t + i → s + length b ≤ t + i
      out i k g = ⊎_elim (λ l. absurd (let z : e ≤ s = h l in omega arith)) (λ r. omega arith) (lt-or-le t (s + length b))

-- one after another
pub paste-paste : (a : List ℕ) (s : ℕ) (b c : List ℕ) → s + length b + length c ≤ length a → paste (paste a s b) (s + length b) c ≡ paste a s (b ++ c)
paste-paste a s b c h =
    let lp = length-paste a s b (omega arith) in
    let lb = length-append b c in
    let lc = length-paste (paste a s b) (s + length b) c (omega (arith, lp)) in
    ext_get_or 0 _ _ (lc ∙ lp ∙ sym (length-paste a s (b ++ c) (omega (arith, lb))))
    (λ i l. ⊎_elim
    (λ below. get_or-paste-out (paste a s b) (s + length b) c (omega (arith, lp)) i (λ g. absurd (omega arith)) ∙ get_or-paste-out a s b (omega arith) i (λ g. absurd (omega arith)) ∙ sym (get_or-paste-out a s (b ++ c) (omega (arith, lb)) i (λ g. absurd (omega arith))))
    (λ (g : s ≤ i). ⊎_elim
    (λ inb. let j : ℕ = i - s in let q : s + j ≡ i = omega arith in
    get_or-paste-out (paste a s b) (s + length b) c (omega (arith, lp)) i (λ g. absurd (omega arith))
    ∙ ap (λ (x : ℕ). get_or (paste a s b) x 0) (sym q) ∙ get_or-paste-in a s b (omega arith) j (omega arith)
    ∙ sym (get_or-append b c 0 j (omega arith)) ∙ sym (get_or-paste-in a s (b ++ c) (omega (arith, lb)) j (omega (arith, lb))) ∙ ap (λ (x : ℕ). get_or (paste a s (b ++ c)) x 0) q)
    (λ (o : s + length b ≤ i). ⊎_elim
    (λ inc. let j : ℕ = i - (s + length b) in let q : s + length b + j ≡ i = omega arith in let q2 : s + (length b + j) ≡ i = omega arith in
    ap (λ (x : ℕ). get_or (paste (paste a s b) (s + length b) c) x 0) (sym q) ∙ get_or-paste-in (paste a s b) (s + length b) c (omega (arith, lp)) j (omega arith)
    ∙ sym (get_or-append-add b c j 0) ∙ sym (get_or-paste-in a s (b ++ c) (omega (arith, lb)) (length b + j) (omega (arith, lb))) ∙ ap (λ (x : ℕ). get_or (paste a s (b ++ c)) x 0) q2)
    (λ (u : s + length b + length c ≤ i).
    get_or-paste-out (paste a s b) (s + length b) c (omega (arith, lp)) i (λ _. u) ∙ get_or-paste-out a s b (omega arith) i (λ _. o)
    ∙ sym (get_or-paste-out a s (b ++ c) (omega (arith, lb)) i (λ _. omega (arith, lb))))
    (lt-or-le i (s + length b + length c)))
    (lt-or-le i (s + length b)))
    (lt-or-le i s))

-- what is there already, laid over it
pub paste-own : (a : List ℕ) (s e : ℕ) → s ≤ e → e ≤ length a → paste a s (part a s e) ≡ a
paste-own a s e h k =
    let n : length (part a s e) ≡ e - s = length_part a s e h k in
    ext_get_or 0 _ _ (length-paste a s (part a s e) (omega (arith, n)))
    (λ i l. ⊎_elim
    (λ below. get_or-paste-out a s (part a s e) (omega (arith, n)) i (λ g. absurd (omega arith)))
    (λ (g : s ≤ i). ⊎_elim
    (λ inside. let j : ℕ = i - s in let q : s + j ≡ i = omega arith in
    ap (λ (x : ℕ). get_or (paste a s (part a s e)) x 0) (sym q) ∙ get_or-paste-in a s (part a s e) (omega (arith, n)) j (omega (arith, n))
    ∙ get_d_part a s e j (omega arith) ∙ ap (λ (x : ℕ). get_or a x 0) q)
    (λ (o : e ≤ i). get_or-paste-out a s (part a s e) (omega (arith, n)) i (λ _. omega (arith, n)))
    (lt-or-le i e))
    (lt-or-le i s))

-- one element laid over
pub set-paste : (a : List ℕ) (s v : ℕ) → s < length a → set a s v ≡ paste a s (v ∷ [])
set-paste a s v h =
    ext_get_or 0 _ _ (length-set a s v ∙ sym (length-paste a s (v ∷ []) (omega arith)))
    (λ i l. ⊎_elim
    (λ below. get_or-set_other a s i v 0 (omega arith) ∙ sym (get_or-paste-out a s (v ∷ []) (omega arith) i (λ g. absurd (omega arith))))
    (λ (g : s ≤ i). ⊎_elim
    (λ (e : s ≡ i). ap (λ (x : ℕ). get_or (set a s v) x 0) (sym e) ∙ get_or-set_same a s v 0 h ∙ sym (get_or-paste-in a s (v ∷ []) (omega arith) 0 (omega arith)) ∙ ap (λ (x : ℕ). get_or (paste a s (v ∷ [])) x 0) (let q : s + 0 ≡ i = omega arith in q))
    (λ above. get_or-set_other a s i v 0 (omega arith) ∙ sym (get_or-paste-out a s (v ∷ []) (omega arith) i (λ _. omega arith)))
    (eq-or-lt_of_le g))
    (lt-or-le i s))

-- ---- fills

-- ---- tables

pub length-tab : (f : ℕ → ℕ) (s n : ℕ) → length (tab f s n) ≡ n
unfolding tab
length-tab f s zero = refl
length-tab f s (suc n) = ap suc (length-tab f (suc s) n)

pub get_or-tab : (f : ℕ → ℕ) (s n i : ℕ) → i < n → get_or (tab f s n) i 0 ≡ f (s + i)
unfolding tab
get_or-tab f s zero i l = absurd (omega arith)
get_or-tab f s (suc n) zero l = ap f (sym (add-zero s))
get_or-tab f s (suc n) (suc i) l = get_or-tab f (suc s) n i (omega arith) ∙ ap f (let e : suc s + i ≡ s + suc i = omega arith in e)

pub tab-cong : (f g : ℕ → ℕ) (s t n : ℕ) → ((i : ℕ) → i < n → f (s + i) ≡ g (t + i)) → tab f s n ≡ tab g t n
tab-cong f g s t n h =
    ext_get_or 0 _ _ (length-tab f s n ∙ sym (length-tab g t n))
    (λ i l. let k : i < n = omega (arith, length-tab f s n) in get_or-tab f s n i k ∙ h i k ∙ sym (get_or-tab g t n i k))

-- a list is the table of its elements
pub tab-get_or : (l : List ℕ) → tab (λ i. get_or l i 0) 0 (length l) ≡ l
tab-get_or l =
    ext_get_or 0 _ _ (length-tab (λ i. get_or l i 0) 0 (length l))
    (λ i h. let b : i < length l = omega (arith, length-tab (λ i. get_or l i 0) 0 (length l)) in get_or-tab (λ i. get_or l i 0) 0 (length l) i b ∙ ap (λ (j : ℕ). get_or l j 0) (zero-add i))

pub tab-zeros : (s n : ℕ) → tab (λ i. 0) s n ≡ replicate n 0
tab-zeros s n =
    ext_get_or 0 _ _ (length-tab (λ i. 0) s n ∙ sym (length-replicate n 0))
    (λ i h. let b : i < n = omega (arith, length-tab (λ i. 0) s n) in get_or-tab (λ i. 0) s n i b ∙ sym (get_or-replicate n i 0 0 b))

-- ---- a loop that stores f j at each j: the first i are stored

pub record Stored (n : ℕ) (f : ℕ → ℕ) (d : List ℕ) (i : ℕ) : Type 0 where
  pub size : length d ≡ n
  pub have : (j : ℕ) → j < i → get_or d j 0 ≡ f j

pub stored-none : (f : ℕ → ℕ) (d : List ℕ) → Stored (length d) f d 0
stored-none f d = record { size = refl; have = λ j l. absurd (omega arith) }

pub stored_more : (n : ℕ) (f : ℕ → ℕ) (d : List ℕ) (i v : ℕ) → i < n → v ≡ f i → Stored n f d i → Stored n f (set d i v) (i + 1)
stored_more n f d i v h e S = record {
  size = length-set d i v ∙ S.size;
  have = λ j l. ⊎_elim
      (λ (q : j ≡ i). rw q (get_or-set_same d i v 0 (omega (arith, S.size)) ∙ e))
      (λ m. get_or-set_other d i j v 0 (omega arith) ∙ S.have j m)
      (eq-or-lt_of_le (let y : j ≤ i = omega arith in y));
}

pub stored-all : (n : ℕ) (f : ℕ → ℕ) (d : List ℕ) (i : ℕ) → n ≤ i → Stored n f d i → d ≡ tab f 0 n
stored-all n f d i h S =
    ext_get_or 0 _ _ (S.size ∙ sym (length-tab f 0 n))
    (λ j l. let k : j < n = omega (arith, S.size) in S.have j (omega arith) ∙ ap f (sym (zero-add j)) ∙ sym (get_or-tab f 0 n j k))
