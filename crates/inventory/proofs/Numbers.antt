-- A number in decimal: digits that say it, the first of them no `0` but in 0 itself.
use mathlib.Core.Path.{◌≡◌, refl, sym, ap, ◌∙◌, subst}
use mathlib.Core.List.{List, [], ◌∷◌, ◌++◌, nil≢cons}
use mathlib.Core.Logic.{◌≢◌, ⊎_elim}
use Prim.Native.Nat.{ℕ, zero, suc, ◌+◌, ◌*◌, ◌-◌, ◌/◌, ◌%◌, ◌≤◌, ◌<◌}
use native.Mathlib.Omega.{arith}
use lib.ListN.{get_or}
use borrow.Author.Tests.{lt-ltb, le-ltb}
use Rattle.base.proofs.Numbers.{lt-or-le}
use Rattle.inventory.specs.Text.{digits, decimal}
use Rattle.inventory.specs.Promises.{Each, none, more, value_of, Digit, Numeral, Decimals}

-- a digit more, at the end
value-more : (x : ℕ) (l : List ℕ) (c : ℕ) → value_of x (l ++ (c ∷ [])) ≡ 10 * value_of x l + (c - 48)
unfolding value_of
value-more x [] c = refl
value-more x (d ∷ l) c = value-more (10 * x + (d - 48)) l c

value-one : (c : ℕ) → value_of 0 (c ∷ []) ≡ c - 48
unfolding value_of
value-one c = let e : 10 * 0 + (c - 48) ≡ c - 48 = omega arith in e

pub digits_low : (k n : ℕ) → n < 10 → digits (suc k) n ≡ (48 + n) ∷ []
unfolding digits
digits_low k n l = rw (lt-ltb n 10 l)

pub digits-high : (k n : ℕ) → 10 ≤ n → digits (suc k) n ≡ digits k (n / 10) ++ ((48 + n % 10) ∷ [])
unfolding digits
digits-high k n l = rw (le-ltb n 10 l)

each_last : {l : List ℕ} {c : ℕ} → Each Digit l → Digit c → Each Digit (l ++ (c ∷ []))
each_last none d = more d none
each_last (more x e) d = more x (each_last e d)

pub more-some : (l : List ℕ) (c : ℕ) (m : List ℕ) → l ++ (c ∷ m) ≢ []
more-some [] c m e = nil≢cons (sym e)
more-some (d ∷ l) c m e = nil≢cons (sym e)

last-first : (l : List ℕ) (c : ℕ) → l ≢ [] → get_or (l ++ (c ∷ [])) 0 0 ≡ get_or l 0 0
last-first [] c n = absurd (n refl)
last-first (d ∷ l) c n = refl

one-digit : (n : ℕ) → n < 10 → Numeral n ((48 + n) ∷ [])
one-digit n l = record {
  value = value-one (48 + n) ∙ omega arith;
  digits = more {x = 48 + n} (omega arith, omega arith) none;
  some = λ e. nil≢cons (sym e);
  first = λ e. ap (λ (c : ℕ). c ∷ []) e;
}

-- a digit more
more-digits : (n : ℕ) (l : List ℕ) → 10 ≤ n → Numeral (n / 10) l → Numeral n (l ++ ((48 + n % 10) ∷ []))
more-digits n l h N = record {
  value = value-more 0 l (48 + n % 10) ∙ omega (arith, N.value);
  digits = each_last N.digits (omega arith, omega arith);
  some = more-some l (48 + n % 10) [];
  first = λ e. let z : value_of 0 l ≡ 0 = ap (value_of 0) (N.first (sym (last-first l (48 + n % 10) N.some) ∙ e)) ∙ value-one 48 in absurd (omega (arith, z, N.value));
}

numeral : (k n : ℕ) → n < k → Numeral n (digits k n)
numeral zero n h = absurd (omega arith)
numeral (suc k) n h =
    ⊎_elim
    (λ (l : n < 10). subst (Numeral n) (sym (digits_low k n l)) (one-digit n l))
    (λ (l : 10 ≤ n). subst (Numeral n) (sym (digits-high k n l)) (more-digits n (digits k (n / 10)) l (numeral k (n / 10) (omega arith))))
    (lt-or-le n 10)

pub decimals : Decimals
unfolding Decimals decimal
decimals n = numeral (suc n) n (omega arith)

-- two numbers that are spelt alike are one
pub decimal-one : (n m : ℕ) → decimal n ≡ decimal m → n ≡ m
unfolding Decimals
decimal-one n m e = sym (decimals n).value ∙ ap (value_of 0) e ∙ (decimals m).value
