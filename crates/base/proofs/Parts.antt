-- More laws of parts: parts that meet, parts of parts, and lists that are laid over by runs.
use mathlib.Core.Path.{◌≡◌, sym, ap, ap₂, ◌∙◌, subst}
use mathlib.Core.List.{List, [], ◌∷◌, ◌++◌}
use mathlib.Core.Logic.{⊎_elim}
use Prim.Native.Nat.{ℕ, zero, suc, ◌+◌, ◌-◌, ◌≤◌, ◌<◌}
use native.Mathlib.Nat.{zero-add}
use native.Mathlib.Omega.{arith}
use lib.ListN.{length, get_or, take, drop, replicate, length-take, length-replicate, get_or-replicate, get_or-eq_default}
use lib.Seq.{take-add, take-take, take-nil, drop-drop, drop-cons, ext_get_or}
use Rattle.base.specs.Parts.{part, back, paste, tab}
use Rattle.base.proofs.Numbers.{lt-or-le}
use Rattle.base.proofs.Lists.{length_part, get_d_part, length-paste, get_or-paste-in, get_or-paste-out, length-tab, get_or-tab, tab-cong, Stored, stored-all}

pub drop-take : (s k : ℕ) (l : List ℕ) → drop s (take k l) ≡ take (k - s) (drop s l)
drop-take zero k l = ap (λ (n : ℕ). take n l) (let e : k ≡ k - 0 = omega arith in e)
drop-take (suc s) k [] = ap (drop (suc s)) (take-nil k) ∙ sym (take-nil (k - suc s))
drop-take (suc s) zero (x ∷ l) = ap (λ (n : ℕ). take n (drop s l)) (let e : 0 ≡ 0 - suc s = omega arith in e)
drop-take (suc s) (suc k) (x ∷ l) = drop-take s k l ∙ ap (λ (n : ℕ). take n (drop s l)) (let e : k - s ≡ suc k - suc s = omega arith in e)

-- the n elements from s on
pub part-size : (l : List ℕ) (s n : ℕ) → part l s (s + n) ≡ take n (drop s l)
part-size l s n = ap (λ (k : ℕ). take k (drop s l)) (let e : s + n - s ≡ n = omega arith in e)

-- two parts that meet
pub part_join : (l : List ℕ) (s m n : ℕ) → part l s (s + (m + n)) ≡ part l s (s + m) ++ part l (s + m) (s + m + n)
part_join l s m n =
    part-size l s (m + n) ∙ take-add m n (drop s l) ∙ ap₂ (λ (a b : List ℕ). a ++ take n b) (sym (part-size l s m)) (drop-drop m s l) ∙ ap (λ (b : List ℕ). part l s (s + m) ++ b) (sym (part-size l (s + m) n))

-- a part of a part
pub part-part : (l : List ℕ) (t e s u : ℕ) → t + u ≤ e → part (part l t e) s u ≡ part l (t + s) (t + u)
part-part l t e s u h =
    ap (take (u - s)) (drop-take s (e - t) (drop t l))
    ∙ take-take (u - s) (e - t - s) (drop s (drop t l)) (omega arith)
    ∙ ap₂ (λ (n : ℕ) (b : List ℕ). take n b) (let q : u - s ≡ t + u - (t + s) = omega arith in q) (drop-drop s t l)

-- one element
pub part-one : (l : List ℕ) (s : ℕ) → s < length l → part l s (s + 1) ≡ get_or l s 0 ∷ []
part-one l s h = part-size l s 1 ∙ ap (take 1) (drop-cons l s 0 h)

-- what holds of 0 and of all elements of a list holds of a part's
pub part-all : (P : ℕ → Type 0) (l : List ℕ) → P 0 → ((i : ℕ) → P (get_or l i 0)) → (s e i : ℕ) → P (get_or (part l s e) i 0)
part-all P l z h s e i =
    ⊎_elim
    (λ k. rw (get_d_part l s e i k) (h (s + i)))
    (λ g. rw (get_or-eq_default (part l s e) 0 {n = i} (omega (arith, length-take (e - s) (drop s l)))) z)
    (lt-or-le i (e - s))

-- what holds of all elements of both lists holds of them laid over one another
pub paste_all : (P : ℕ → Type 0) (a : List ℕ) (s : ℕ) (b : List ℕ) → s + length b ≤ length a → ((i : ℕ) → P (get_or a i 0)) → ((i : ℕ) → P (get_or b i 0)) → (i : ℕ) → P (get_or (paste a s b) i 0)
paste_all P a s b h p q i =
    ⊎_elim
    (λ below. rw (get_or-paste-out a s b h i (λ g. absurd (omega arith))) (p i))
    (λ (g : s ≤ i). ⊎_elim
    (λ inside. let j : ℕ = i - s in let e : i ≡ s + j = omega arith in subst (λ (k : ℕ). P (get_or (paste a s b) k 0)) (sym e) (rw (get_or-paste-in a s b h j (omega arith)) (q j)))
    (λ (o : s + length b ≤ i). rw (get_or-paste-out a s b h i (λ _. o)) (p i))
    (lt-or-le i (s + length b)))
    (lt-or-le i s)

-- all of a list
pub part-whole : (l : List ℕ) (n : ℕ) → length l ≡ n → part l 0 n ≡ l
part-whole l n e =
    let z : length (part l 0 n) ≡ n = length_part l 0 n (omega arith) (omega arith) ∙ omega arith in
    ext_get_or 0 _ _ (z ∙ sym e) (λ i h. get_d_part l 0 n i (omega arith) ∙ ap (λ (j : ℕ). get_or l j 0) (let q : 0 + i ≡ i = omega arith in q))

-- two parts of 16, by their halves
pub part-halves : (l m : List ℕ) (s : ℕ) → length m ≡ 16 → part l s (s + 8) ≡ part m 0 8 → part l (s + 8) (s + 16) ≡ part m 8 16 → part l s (s + 16) ≡ m
part-halves l m s h a b =
    part_join l s 8 8
    ∙ ap₂ (λ (x y : List ℕ). x ++ y) a (ap (part l (s + 8)) (let e : s + 8 + 8 ≡ s + 16 = omega arith in e) ∙ b)
    ∙ sym (part_join m 0 8 8)
    ∙ part-whole m 16 h

-- a part of m bytes that comes back as t
pub back-paste : (d t : List ℕ) (i m : ℕ) → length t ≡ m → back d i (i + m) t ≡ paste d i t
unfolding paste
back-paste d t i m e = ap (λ (n : ℕ). back d i (i + n) t) (sym e)

-- a part that comes back as zeros
pub back-zeros : (d t : List ℕ) (s e m : ℕ) → s + m ≡ e → e ≤ length d → t ≡ replicate (length (part d s e)) 0 → back d s e t ≡ paste d s (replicate m 0)
back-zeros d t s e m q l z =
    let n : length (part d s e) ≡ m = length_part d s e (omega arith) l ∙ omega arith in
    let y : t ≡ replicate m 0 = z ∙ ap (λ (i : ℕ). replicate i 0) n in
    ap (λ (x : ℕ). back d s x t) (sym q) ∙ back-paste d t s m (ap length y ∙ length-replicate m 0) ∙ ap (paste d s) y

-- a list laid over all of another
pub paste-whole : (d t : List ℕ) → length d ≡ length t → paste d 0 t ≡ t
paste-whole d t e =
    let n = length-paste d 0 t (omega arith) in
    ext_get_or 0 _ _ (n ∙ e)
    (λ i l.
    ap (λ (j : ℕ). get_or (paste d 0 t) j 0) (sym (zero-add i)) ∙ get_or-paste-in d 0 t (omega arith) i (omega (arith, n)))

-- a loop that fills d with f pos, f (pos + 1), .. by runs of several: one run more, and all
pub run_more : (n : ℕ) (f : ℕ → ℕ) (pos : ℕ) (d t : List ℕ) (i m : ℕ) → i + m ≤ n → t ≡ tab f (pos + i) m → Stored n (λ j. f (pos + j)) d i → Stored n (λ j. f (pos + j)) (back d i (i + m) t) (i + m)
run_more n f pos d t i m h e S =
    let lt : length t ≡ m = ap length e ∙ length-tab f (pos + i) m in
    let fits : i + length t ≤ length d = omega (arith, S.size) in
    rw (back-paste d t i m lt) (record {
      size = length-paste d i t fits ∙ S.size;
      have = λ j l. ⊎_elim
          (λ below. get_or-paste-out d i t fits j (λ g. absurd (omega arith)) ∙ S.have j below)
          (λ (g : i ≤ j).
          let r : ℕ = j - i in
          let q : i + r ≡ j = omega arith in
          let s : pos + i + r ≡ pos + j = omega arith in
          ap (λ (x : ℕ). get_or (paste d i t) x 0) (sym q)
          ∙ get_or-paste-in d i t fits r (omega arith)
          ∙ ap (λ (x : List ℕ). get_or x r 0) e
          ∙ get_or-tab f (pos + i) m r (omega arith)
          ∙ ap f s)
          (lt-or-le j i);
    })

pub run-all : (n : ℕ) (f : ℕ → ℕ) (pos : ℕ) (d : List ℕ) (i : ℕ) → n ≤ i → Stored n (λ j. f (pos + j)) d i → d ≡ tab f pos n
run-all n f pos d i h S =
    stored-all n (λ j. f (pos + j)) d i h S ∙ tab-cong (λ j. f (pos + j)) f 0 pos n (λ j l. ap (λ (x : ℕ). f (pos + x)) (zero-add j))

-- a list of zeros has zeros everywhere, past its end too
pub get_or-zero-list : (n i : ℕ) → get_or {A = ℕ} (replicate n 0) i 0 ≡ 0
get_or-zero-list n i =
    ⊎_elim (λ l. get_or-replicate n i 0 0 l) (λ g. get_or-eq_default (replicate n 0) 0 {n = i} (omega (arith, length-replicate {A = ℕ} n 0))) (lt-or-le i n)
