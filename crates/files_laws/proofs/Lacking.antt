-- The blocks that a part of a file lacks: those of a piece, and those of the rest once the piece is there.
use mathlib.Core.Path.{◌≡◌, refl, sym, ap, ◌∙◌}
use mathlib.Core.Bool.{Bool, true, false, not, ◌&&◌, ◌||◌}
use mathlib.Core.List.{List}
use mathlib.Core.Logic.{⊎_elim}
use Prim.Native.Nat.{ℕ, zero, suc, ◌+◌, ◌-◌, ◌/◌, ◌≤◌, ◌<◌}
use native.Mathlib.Omega.{arith}
use borrow.Author.Tests.{lt-ltb, le-ltb, ltb-true}
use Rattle.base.specs.Count.{sum_to, count_to, bit}
use Rattle.base.proofs.Bools.{same_bool, or_cases, or-first, or-second}
use Rattle.base.proofs.Counts.{sum_to-cong, sum_to-add, sum_to-le, sum_to-join, count_to-cong, count_to-none}
use Rattle.base.proofs.Numbers.{lt-or-le}
use Rattle.arena.specs.Fields.{File}
use Rattle.files.specs.Read.{present}
use Rattle.files.specs.Store.{lo, hi, touched}
use Rattle.files_laws.specs.Laws.{touches, lacking}
use Rattle.files_laws.proofs.Put.{absent, touched-is}

-- ---- counted over all blocks of the file

count_to-join : (p : ℕ → Bool) (m n : ℕ) → count_to p (m + n) ≡ count_to p m + count_to (λ i. p (m + i)) n
unfolding count_to
count_to-join p m n = sum_to-join (λ i. bit (p i)) m n

touched-end : (pos n : ℕ) → pos / 480 + touched pos n ≤ pos + n
unfolding touched
touched-end pos zero = omega arith
touched-end pos (suc n) = omega arith

touched-past : (pos n q : ℕ) → pos / 480 + touched pos n ≤ q → hi pos n q ≤ lo pos q
unfolding touched
touched-past pos zero q l = omega arith
touched-past pos (suc n) q l = omega arith

-- block q is touched and absent
abbrev lacks : List ℕ → File → ℕ → ℕ → ℕ → Bool
lacks a f pos n q = touches pos n q && not (present a f q)

lacking-is : (a : List ℕ) (f : File) (pos n all : ℕ) → pos + n ≤ all → lacking a f pos n ≡ count_to (lacks a f pos n) all
unfolding lacking
lacking-is a f pos n all l =
    let u : ℕ = pos / 480 in
    let t : ℕ = touched pos n in
    let r : ℕ = all - (u + t) in
    let e : u + (t + r) ≡ all = omega (arith, touched-end pos n) in
    omega (
      arith,
      ap (count_to (lacks a f pos n)) e,
      count_to-join (lacks a f pos n) u (t + r),
      count_to-join (λ i. lacks a f pos n (u + i)) t r,
      count_to-none (lacks a f pos n) u (λ q b. ap (λ (x : Bool). x && not (present a f q)) (le-ltb (lo pos q) (hi pos n q) (omega arith))),
      count_to-cong (λ i. lacks a f pos n (u + i)) (absent a f pos) t (λ i b. ap (λ (x : Bool). x && absent a f pos i) (touched-is pos n i b)),
      count_to-none (λ i. lacks a f pos n (u + (t + i))) r (λ i b.
          ap (λ (x : Bool). x && not (present a f (u + (t + i)))) (le-ltb (lo pos (u + (t + i))) (hi pos n (u + (t + i))) (touched-past pos n (u + (t + i)) (omega arith)))),
    )

-- no bytes lack nothing
pub lacking-zero : (a : List ℕ) (f : File) (pos : ℕ) → lacking a f pos 0 ≡ 0
unfolding lacking touched count_to sum_to
lacking-zero a f pos = refl

-- ---- a part and a piece beside it

-- m bytes from pos on and n bytes from p on touch what k bytes from `at` on touch
abbrev pub Beside : ℕ → ℕ → ℕ → ℕ → ℕ → ℕ → Type 0
Beside pos m p n at k = (q : ℕ) → touches at k q ≡ (touches pos m q || touches p n q)

-- the piece comes after the part
pub beside-after : (pos m p n k : ℕ) → p ≡ pos + m → k ≡ m + n → Beside pos m p n pos k
beside-after pos m p n k e s q = same_bool (touches pos k q) (touches pos m q || touches p n q) split whole
  where
    split : touches pos k q ≡ true → (touches pos m q || touches p n q) ≡ true
    split t =
        let l : lo pos q < hi pos k q = ltb-true (lo pos q) (hi pos k q) t in
        ⊎_elim
        (λ x. or-first (touches p n q) (lt-ltb (lo pos q) (hi pos m q) x))
        (λ x. or-second (touches pos m q) (lt-ltb (lo p q) (hi p n q) (omega arith)))
        (lt-or-le (lo pos q) (hi pos m q))

    whole : (touches pos m q || touches p n q) ≡ true → touches pos k q ≡ true
    whole t =
        lt-ltb (lo pos q) (hi pos k q)
        (⊎_elim
        (λ x. let l : lo pos q < hi pos m q = ltb-true (lo pos q) (hi pos m q) x in omega arith)
        (λ x. let l : lo p q < hi p n q = ltb-true (lo p q) (hi p n q) x in omega arith)
        (or_cases (touches pos m q) (touches p n q) t))

or_swap : (s t : Bool) → (s || t) ≡ (t || s)
or_swap true true = refl
or_swap true false = refl
or_swap false true = refl
or_swap false false = refl

-- and before it
pub beside-before : (pos m p n k : ℕ) → pos ≡ p + n → k ≡ n + m → Beside pos m p n p k
beside-before pos m p n k e s q = beside-after p n pos m k e s q ∙ or_swap (touches p n q) (touches pos m q)

-- the blocks that a part touches are there in d, and no others came
abbrev pub Gained : List ℕ → File → ℕ → ℕ → List ℕ → Type 0
Gained a f pos m d = (q : ℕ) → present d f q ≡ (present a f q || touches pos m q)

or_assoc : (x s t : Bool) → ((x || s) || t) ≡ (x || (s || t))
or_assoc true s t = refl
or_assoc false s t = refl

-- and so are those of the piece beside it
pub gained-next : (a d e : List ℕ) (f : File) (pos m p n at k : ℕ) → Beside pos m p n at k → Gained a f pos m d → Gained d f p n e → Gained a f at k e
gained-next a d e f pos m p n at k B D E q =
    E q
    ∙ ap (λ (x : Bool). x || touches p n q) (D q)
    ∙ or_assoc (present a f q) (touches pos m q) (touches p n q)
    ∙ ap (λ (x : Bool). present a f q || x) (sym (B q))

bit-split : (x s t : Bool) → bit (s && not x) + bit (t && not (x || s)) ≡ bit ((s || t) && not x)
bit-split true true true = refl
bit-split true true false = refl
bit-split true false true = refl
bit-split true false false = refl
bit-split false true true = refl
bit-split false true false = refl
bit-split false false true = refl
bit-split false false false = refl

-- what a part lacks, and then the piece beside it
pub lacking-beside : (a d : List ℕ) (f : File) (pos m p n at k : ℕ) → Beside pos m p n at k → Gained a f pos m d → lacking a f pos m + lacking d f p n ≡ lacking a f at k
unfolding count_to
lacking-beside a d f pos m p n at k B D =
    let all : ℕ = pos + m + (p + n) + (at + k) in
    omega (
      arith,
      lacking-is a f pos m all (omega arith),
      lacking-is d f p n all (omega arith),
      lacking-is a f at k all (omega arith),
      sum_to-add (λ q. bit (lacks a f pos m q)) (λ q. bit (lacks d f p n q)) all,
      sum_to-cong (λ q. bit (lacks a f pos m q) + bit (lacks d f p n q)) (λ q. bit (lacks a f at k q)) all (λ q _.
          ap (λ (x : Bool). bit (lacks a f pos m q) + bit (touches p n q && not x)) (D q)
          ∙ bit-split (present a f q) (touches pos m q) (touches p n q)
          ∙ ap (λ (x : Bool). bit (x && not (present a f q))) (sym (B q))),
    )

bit-less : (s t x : Bool) → (s ≡ true → t ≡ true) → bit (s && x) ≤ bit (t && x)
bit-less true t x h = rw (h refl) (omega arith)
bit-less false t x h = omega arith

-- a part of a part lacks no more
pub lacking-part : (a : List ℕ) (f : File) (pos m at k : ℕ) → at ≤ pos → pos + m ≤ at + k → lacking a f pos m ≤ lacking a f at k
unfolding count_to
lacking-part a f pos m at k l g =
    omega (
      arith,
      lacking-is a f pos m (at + k) (omega arith),
      lacking-is a f at k (at + k) (omega arith),
      sum_to-le (λ q. bit (lacks a f pos m q)) (λ q. bit (lacks a f at k q)) (at + k) (λ q _.
          bit-less (touches pos m q) (touches at k q) (not (present a f q))
          (λ e. let x : lo pos q < hi pos m q = ltb-true (lo pos q) (hi pos m q) e in lt-ltb (lo at q) (hi at k q) (omega arith))),
    )
