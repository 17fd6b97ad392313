-- Bytes with zeros after them, place by place; what a read is of a text; parts of a text that is given byte by byte.
use mathlib.Core.Path.{◌≡◌, sym, ap, ap₂, ◌∙◌}
use mathlib.Core.List.{List, ◌∷◌, ◌++◌}
use mathlib.Core.Logic.{⊎_elim}
use Prim.Native.Nat.{ℕ, zero, suc, ◌+◌, ◌-◌, ◌≤◌, ◌<◌, min, max}
use native.Mathlib.Omega.{arith}
use lib.ListN.{length, get_or, take, drop, replicate, length-append, length-take, length-drop, length-replicate, get_or-replicate, get_or-append, get_or-eq_default}
use lib.Seq.{get_or-append-add, ext_get_or}
use Rattle.base.specs.Parts.{part, paste, tab}
use Rattle.base.proofs.Lists.{length-tab, get_or-tab, tab-cong, get_d_part}
use Rattle.base.proofs.Numbers.{lt-or-le}
use Rattle.pieces.proofs.Runs.{tab-join}
use Rattle.sefs.specs.Contents.{read_count}
use Rattle.sefs_laws.proofs.Contents.{tab-zero}
use Rattle.drawings.specs.Saved.{filled_to}

-- a read of a text is a part of it, as far as it goes
pub part-tab : (l : List ℕ) (f : ℕ → ℕ) (at room : ℕ) → ((j : ℕ) → j < length l → f j ≡ get_or l j 0) → tab f at (read_count (length l) at room) ≡ part l at (at + room)
part-tab l f at room same =
    let n : ℕ = read_count (length l) at room in
    let long : length (tab f at (read_count (length l) at room)) ≡ read_count (length l) at room = length-tab f at n in
    ext_get_or 0 (tab f at n) (part l at (at + room))
    (long ∙ sym (length-take (at + room - at) (drop at l) ∙ (ap (min (at + room - at)) (length-drop at l) ∙ omega arith)))
    (λ i h. get_or-tab f at n i (omega (arith, long)) ∙ same (at + i) (omega (arith, long)) ∙ sym (get_d_part l at (at + room) i (omega (arith, long))))

module _ (n : ℕ) (l : List ℕ) where
  pub filled-long : length (filled_to n l) ≡ max (length l) n
  filled-long = length-append l (replicate (n - length l) 0) ∙ ap (λ (m : ℕ). length l + m) (length-replicate (n - length l) 0) ∙ omega arith

  -- past the end a list reads as zeros, and so do the zeros
  pub filled_at : (j : ℕ) → j < max (length l) n → get_or (filled_to n l) j 0 ≡ get_or l j 0
  filled_at j h =
      ⊎_elim
      (λ k. get_or-append l (replicate (n - length l) 0) 0 j k)
      (λ k.
      ap (λ (m : ℕ). get_or (filled_to n l) m 0) (let e : j ≡ length l + (j - length l) = omega arith in e)
      ∙ get_or-append-add l (replicate (n - length l) 0) (j - length l) 0
      ∙ get_or-replicate (n - length l) (j - length l) 0 0 (omega arith)
      ∙ sym (get_or-eq_default l 0 k))
      (lt-or-le j (length l))

-- ---- a text that is given byte by byte

pub take-tab : (f : ℕ → ℕ) (s n m : ℕ) → take n (tab f s m) ≡ tab f s (min n m)
unfolding tab
take-tab f s zero m = ap (tab f s) (let e : 0 ≡ min 0 m = omega arith in e)
take-tab f s (suc n) zero = ap (tab f s) (let e : 0 ≡ min (suc n) 0 = omega arith in e)
take-tab f s (suc n) (suc m) = ap (λ (l : List ℕ). f s ∷ l) (take-tab f (suc s) n m) ∙ ap (tab f s) (let e : suc (min n m) ≡ min (suc n) (suc m) = omega arith in e)

pub drop-tab : (f : ℕ → ℕ) (s n m : ℕ) → drop n (tab f s m) ≡ tab f (s + n) (m - n)
unfolding tab
drop-tab f s zero m = ap₂ (tab f) (let e : s ≡ s + 0 = omega arith in e) (let e : m ≡ m - 0 = omega arith in e)
drop-tab f s (suc n) zero = ap (tab f (s + suc n)) (let e : 0 ≡ 0 - suc n = omega arith in e)
drop-tab f s (suc n) (suc m) = drop-tab f (suc s) n m ∙ ap₂ (tab f) (let e : suc s + n ≡ s + suc n = omega arith in e) (let e : m - n ≡ suc m - suc n = omega arith in e)

-- where g's bytes are in three parts those of f, zeros, and those of f from x on
pub three-parts : (f g : ℕ → ℕ) (from len x m : ℕ) → ((j : ℕ) → j < from → g j ≡ f j) → ((j : ℕ) → from ≤ j → j < from + len → g j ≡ 0)
    → ((k : ℕ) → k < m → g (from + len + k) ≡ f (x + k)) → tab f 0 from ++ (replicate len 0 ++ tab f x m) ≡ tab g 0 (from + (len + m))
three-parts f g from len x m low hole high =
    ap₂ (λ (l r : List ℕ). l ++ r)
    (tab-cong f g 0 0 from (λ k h. sym (low (0 + k) (omega arith))))
    (ap₂ (λ (l r : List ℕ). l ++ r) (sym (tab-zero g from len (λ k h. hole (from + k) (omega arith) (omega arith)))) (tab-cong f g x (from + len) m (λ k h. sym (high k h))) ∙ tab-join g from len m)
    ∙ ap (λ (s : ℕ). tab g 0 from ++ tab g s (len + m)) (let e : from ≡ 0 + from = omega arith in e)
    ∙ tab-join g 0 from (len + m)

-- with zeros up to n, where past its end there are zeros
pub filled-tab : (f : ℕ → ℕ) (size n : ℕ) → ((j : ℕ) → size ≤ j → f j ≡ 0) → filled_to n (tab f 0 size) ≡ tab f 0 (max size n)
filled-tab f size n past =
    ap (λ (l : List ℕ). tab f 0 size ++ l) (ap (λ (k : ℕ). replicate (n - k) 0) (length-tab f 0 size) ∙ sym (tab-zero f (0 + size) (n - size) (λ k h. past (0 + size + k) (omega arith))))
    ∙ tab-join f 0 size (n - size)
    ∙ ap (tab f 0) (let e : size + (n - size) ≡ max size n = omega arith in e)

-- zeros laid over it
pub laid-tab : (f g : ℕ → ℕ) (size from len : ℕ) → ((j : ℕ) → size ≤ j → f j ≡ 0) → ((j : ℕ) → j < from → g j ≡ f j) → ((j : ℕ) → from ≤ j → j < from + len → g j ≡ 0)
    → ((j : ℕ) → from + len ≤ j → j < max size (from + len) → g j ≡ f j) → paste (filled_to (from + len) (tab f 0 size)) from (replicate len 0) ≡ tab g 0 (max size (from + len))
unfolding paste
laid-tab f g size from len past low hole high =
    let m : ℕ = max size (from + len) in
    ap (λ (l : List ℕ). paste l from (replicate len 0)) (filled-tab f size (from + len) past)
    ∙ ap₂ (λ (l r : List ℕ). l ++ (replicate len 0 ++ r))
    (take-tab f 0 from m ∙ ap (tab f 0) (let e : min from (max size (from + len)) ≡ from = omega arith in e))
    (ap₂ drop (ap (λ (k : ℕ). from + k - from) (length-replicate {A = ℕ} len 0)) (drop-tab f 0 from m) ∙ drop-tab f (0 + from) (from + len - from) (m - from))
    ∙ three-parts f g from len (0 + from + (from + len - from)) (m - from - (from + len - from)) low hole
    (λ k h. high (from + len + k) (omega arith) (omega arith) ∙ ap f (let e : from + len + k ≡ 0 + from + (from + len - from) + k = omega arith in e))
    ∙ ap (tab g 0) (let e : from + (len + (max size (from + len) - from - (from + len - from))) ≡ max size (from + len) = omega arith in e)
