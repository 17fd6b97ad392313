-- The laws of runs of bytes, all of one width, and of lists by number.
use Prim.Native.Nat.{ℕ, zero, suc, ◌+◌, ◌*◌, ◌-◌, ◌<◌, ◌≤◌}
use native.Mathlib.Nat.{eq-or-lt_of_le, le_of_suc-le-suc, mul-zero, mul-suc}
use native.Mathlib.Numerals.{add-one}
use native.Mathlib.Omega.{arith}
use mathlib.Core.Path.{◌≡◌, refl, sym, ap, ap₂, ◌∙◌}
use mathlib.Core.List.{List, [], ◌∷◌, ◌++◌, append_assoc}
use mathlib.Core.Logic.{⊎_elim}
use lib.ListN.{length, get_or, take, drop, set, take-append-drop, length-append, length-set, get_or-append}
use lib.Seq.{take_at, drop_at, get_or_at, get_or-set_same, get_or-set_other, ext_get_or}
use Rattle.base.proofs.Parts.{part_join}
use Rattle.base.specs.Parts.{part, paste}
use Rattle.base.proofs.Lists.{paste-paste}
use Rattle.table_bytes.specs.Runs.{run_to, list_to}

-- nothing laid over a list
pub paste-nil : (l : List ℕ) (s : ℕ) → paste l s [] ≡ l
unfolding paste
paste-nil l s = ap (λ (m : ℕ). take s l ++ drop m (drop s l)) (let q : s + 0 - s ≡ 0 = omega arith in q) ∙ take-append-drop s l

-- ---- runs

run-suc : (f : ℕ → List ℕ) (n : ℕ) → run_to f (suc n) ≡ run_to f n ++ f n
unfolding run_to
run-suc f n = refl

-- one more, as a loop counts
pub run_more : (f : ℕ → List ℕ) (n : ℕ) → run_to f (n + 1) ≡ run_to f n ++ f n
run_more f n = rw add-one (run-suc f n)

-- a loop that lays a run over l from s on: none yet
pub lay-none : (f : ℕ → List ℕ) (l : List ℕ) (s : ℕ) → l ≡ paste l s (run_to f 0)
unfolding run_to
lay-none f l s = sym (paste-nil l s)

pub run-cong : (f g : ℕ → List ℕ) (n : ℕ) → ((i : ℕ) → i < n → f i ≡ g i) → run_to f n ≡ run_to g n
unfolding run_to
run-cong f g zero h = refl
run-cong f g (suc n) h = ap₂ (λ (a b : List ℕ). a ++ b) (run-cong f g n (λ i l. h i (omega arith))) (h n (omega arith))

module _ (w : ℕ) (f : ℕ → List ℕ) where
  pub length_run : (n : ℕ) → ((i : ℕ) → i < n → length (f i) ≡ w) → length (run_to f n) ≡ w * n
  unfolding run_to
  length_run zero h = sym (mul-zero w)
  length_run (suc n) h =
      let a = length_run n (λ i l. h i (omega arith)) in
      length-append (run_to f n) (f n) ∙ omega (arith, a, h n (omega arith), mul-suc w n)

  -- the i-th stands where the widths before it end
  pub part-run : (n : ℕ) (rest : List ℕ) → ((i : ℕ) → i < n → length (f i) ≡ w) → (i : ℕ) → i < n → part (run_to f n ++ rest) (w * i) (w * i + w) ≡ f i
  unfolding run_to
  part-run zero rest h i l = absurd (omega arith)
  part-run (suc n) rest h i l =
      let e : (run_to f n ++ f n) ++ rest ≡ run_to f n ++ (f n ++ rest) = append_assoc (run_to f n) (f n) rest in
      ap (λ (m : List ℕ). part m (w * i) (w * i + w)) e
      ∙ ⊎_elim
      (λ (q : i ≡ n).
      rw q
      (ap (take (w * n + w - w * n)) (drop_at (run_to f n) (f n ++ rest) (w * n) (length_run n (λ j k. h j (omega arith))))
      ∙ take_at (f n) rest (w * n + w - w * n) (omega (arith, h n (omega arith)))))
      (λ (k : i < n). part-run n (f n ++ rest) (λ j m. h j (omega arith)) i k)
      (eq-or-lt_of_le (le_of_suc-le-suc l))

  -- a loop that lays f i over l at s + w * i: one more turn
  pub run-lay :
      (l a b : List ℕ) (s at i : ℕ) → ((j : ℕ) → j < i + 1 → length (f j) ≡ w) → at ≡ s + w * i → s + w * i + w ≤ length l → a ≡ paste l s (run_to f i) → b ≡ paste a at (f i) → b ≡ paste l s (run_to f (i + 1))
  run-lay l a b s at i h q k ea eb =
      let n = length_run i (λ j m. h j (omega arith)) in
      let e : at ≡ s + length (run_to f i) = omega arith in
      eb ∙ ap₂ (λ (m : List ℕ) (j : ℕ). paste m j (f i)) ea e
      ∙ paste-paste l s (run_to f i) (f i) (omega (arith, h i (omega arith)))
      ∙ ap (paste l s) (sym (run_more f i))

-- the bytes of l from s on, in pieces
pub run-parts : (w : ℕ) (l : List ℕ) (s n : ℕ) → run_to (λ i. part l (s + w * i) (s + w * i + w)) n ≡ part l s (s + w * n)
unfolding run_to
run-parts w l s zero = ap (λ (m : ℕ). take m (drop s l)) (let q : 0 ≡ s + w * 0 - s = omega (arith, mul-zero w) in q)
run-parts w l s (suc n) =
    ap (λ (m : List ℕ). m ++ part l (s + w * n) (s + w * n + w)) (run-parts w l s n)
    ∙ sym (part_join l s (w * n) w)
    ∙ ap (λ (m : ℕ). part l s (s + m)) (sym (mul-suc w n))

-- ---- lists

module _ {A : Type 0} (f : ℕ → A) where
  pub length-list : (n : ℕ) → length (list_to f n) ≡ n
  unfolding list_to
  length-list zero = refl
  length-list (suc n) = length-append (list_to f n) (f n ∷ []) ∙ omega (arith, length-list n)

  pub get_or-list : (d : A) (n i : ℕ) → i < n → get_or (list_to f n) i d ≡ f i
  unfolding list_to
  get_or-list d zero i l = absurd (omega arith)
  get_or-list d (suc n) i l =
      ⊎_elim
      (λ (q : i ≡ n). rw q (get_or_at (list_to f n) (f n) [] d n (length-list n)))
      (λ (k : i < n). get_or-append (list_to f n) (f n ∷ []) d i (omega (arith, length-list n)) ∙ get_or-list d n i k)
      (eq-or-lt_of_le (le_of_suc-le-suc l))

  -- a list of n with f i at each i
  pub list-is : (d : A) (l : List A) (n : ℕ) → length l ≡ n → ((i : ℕ) → i < n → get_or l i d ≡ f i) → l ≡ list_to f n
  list-is d l n e h =
      ext_get_or d l (list_to f n) (e ∙ sym (length-list n))
      (λ i k. let b : i < n = omega (arith, e) in h i b ∙ sym (get_or-list d n i b))

  -- a loop that sets f i at each i: the first i are set
  pub record Filled (d : A) (n : ℕ) (l : List A) (i : ℕ) : Type 0 where
    pub size : length l ≡ n
    pub have : (j : ℕ) → j < i → get_or l j d ≡ f j

  pub filled_none : (d : A) (n : ℕ) (l : List A) → length l ≡ n → Filled d n l 0
  filled_none d n l e = record { size = e; have = λ j k. absurd (omega arith) }

  pub filled_more : (d : A) (n : ℕ) (l : List A) (i : ℕ) (v : A) → i < n → v ≡ f i → Filled d n l i → Filled d n (set l i v) (i + 1)
  filled_more d n l i v h e F = record {
    size = length-set l i v ∙ F.size;
    have = λ j k. ⊎_elim
        (λ (q : j ≡ i). rw q (get_or-set_same l i v d (omega (arith, F.size)) ∙ e))
        (λ m. get_or-set_other l i j v d (omega arith) ∙ F.have j m)
        (eq-or-lt_of_le (let y : j ≤ i = omega arith in y));
  }

  pub filled-all : (d : A) (n : ℕ) (l : List A) (i : ℕ) → n ≤ i → Filled d n l i → l ≡ list_to f n
  filled-all d n l i h F = list-is d l n F.size (λ j k. F.have j (omega arith))

pub list-cong : {A : Type 0} (d : A) (f g : ℕ → A) (n : ℕ) → ((i : ℕ) → i < n → f i ≡ g i) → list_to f n ≡ list_to g n
list-cong d f g n h = list-is g d (list_to f n) n (length-list f n) (λ i k. get_or-list f d n i k ∙ h i k)
