-- The laws of bits: of one number, and of the maps.
use mathlib.Core.Path.{◌≡◌, refl, sym, ap, ap₂, ◌∙◌, subst}
use mathlib.Core.Bool.{Bool, true, false}
use mathlib.Core.List.{List}
use mathlib.Core.Logic.{◌≢◌, ⊎_elim}
use Prim.Native.Nat.{ℕ, zero, suc, ◌+◌, ◌*◌, ◌-◌, ◌/◌, ◌%◌, ◌^◌, ◌≤◌, ◌<◌}
use native.Mathlib.Nat.{div-add-mod', mod-lt, mul_assoc, mul_comm, add-mul, pow-succ', div-div-eq-div-mul, mul-add-div_right, mul-add-mod_self_right, mul-le-mul_right, one-mul, mod-eq_of_lt}
use native.Mathlib.Decide.{ℕ_discrete}
use native.Mathlib.Omega.{arith}
use lib.Arith.{digits_lt, digits_div}
use lib.Pow.{pow_pos, pow-add, pow-lt, shr_lt}
use lib.Dec.{eqb}
use lib.ListN.{length, get_or, length-set}
use lib.Seq.{get_or-set_same, get_or-set_other}
use Rattle.base.specs.Count.{bit, count_to}
use Rattle.base.proofs.Numbers.{lt-or-le}
use Rattle.base.proofs.Counts.{count_to-change, count_to-le, count_to-more, count_to-none, bit_le}
use Rattle.le.specs.Le.{Bytes}
use Rattle.maps.specs.Maps.{bit_of, put_bit, bit_at, with_bit, set_bits}

-- ---- one number

-- a bit as a number is the digit
bit-digit : (d : ℕ) → d < 2 → bit (eqb d 1) ≡ d
bit-digit zero h = refl
bit-digit (suc zero) h = refl
bit-digit (suc (suc d)) h = absurd (omega arith)

digit-bit : (b : Bool) → eqb (bit b) 1 ≡ b
digit-bit true = refl
digit-bit false = refl

pub bit-bit_of : (x k : ℕ) → bit (bit_of x k) ≡ x / 2 ^ k % 2
unfolding bit_of
bit-bit_of x k = bit-digit (x / 2 ^ k % 2) (omega arith)

-- the digits from k on, with b for the lowest of them
abbrev pub above : ℕ → ℕ → Bool → ℕ
above x k b = 2 * (x / 2 ^ k / 2) + bit b

-- what is taken off at bit k is there
pub bit_below : (x k : ℕ) → bit (bit_of x k) * 2 ^ k ≤ x
bit_below x k =
    let q : ℕ = x / 2 ^ k in
    let e : q * 2 ^ k + x % 2 ^ k ≡ x = div-add-mod' x (2 ^ k) in
    let l : bit (bit_of x k) * 2 ^ k ≤ q * 2 ^ k = mul-le-mul_right (2 ^ k) (let h : bit (bit_of x k) ≤ q = omega (arith, bit-bit_of x k) in h) in
    omega arith

-- a number with another bit k, by its digits
pub put_bit-digits : (x k : ℕ) (b : Bool) → put_bit x k b ≡ above x k b * 2 ^ k + x % 2 ^ k
unfolding put_bit
put_bit-digits x k b =
    let P : ℕ = 2 ^ k in
    let q : ℕ = x / P in
    let d : ℕ = bit (bit_of x k) in
    let h : ℕ = 2 * (q / 2) in
    let e : q * P + x % P ≡ x = div-add-mod' x P in
    let s : q ≡ h + d = omega (arith, bit-bit_of x k) in
    let t : q * P ≡ h * P + d * P = ap (λ (n : ℕ). n * P) s ∙ add-mul h d P in
    let u : (h + bit b) * P ≡ h * P + bit b * P = add-mul h (bit b) P in
    omega arith

pub bit_of-put_bit-same : (x k : ℕ) (b : Bool) → bit_of (put_bit x k b) k ≡ b
unfolding bit_of
bit_of-put_bit-same x k b =
    let Q : ℕ = above x k b in
    let e : put_bit x k b / 2 ^ k ≡ Q = ap (λ (n : ℕ). n / 2 ^ k) (put_bit-digits x k b) ∙ digits_div Q {m = 2 ^ k} {r = x % 2 ^ k} (mod-lt x (pow_pos k)) in
    ap (λ (n : ℕ). eqb (n % 2) 1) e ∙ ap (λ (n : ℕ). eqb n 1) (let h : Q % 2 ≡ bit b = omega (arith, bit_le b) in h) ∙ digit-bit b

-- a bit below k is the remainder's
low_bit : (Q r j d : ℕ) → (Q * 2 ^ (j + suc d) + r) / 2 ^ j % 2 ≡ r / 2 ^ j % 2
low_bit Q r j d =
    let J : ℕ = 2 ^ j in
    let D : ℕ = 2 ^ d in
    let p : 2 ^ (j + suc d) ≡ 2 * D * J = pow-add 2 j (suc d) ∙ mul_comm J (2 ^ suc d) ∙ ap (λ (n : ℕ). n * J) (pow-succ' 2 d) in
    let e : Q * 2 ^ (j + suc d) ≡ Q * D * 2 * J = ap (λ (n : ℕ). Q * n) p ∙ sym (mul_assoc Q (2 * D) J) ∙ ap (λ (n : ℕ). n * J) (ap (λ (n : ℕ). Q * n) (mul_comm 2 D) ∙ sym (mul_assoc Q D 2)) in
    ap (λ (n : ℕ). (n + r) / J % 2) e ∙ ap (λ (n : ℕ). n % 2) (mul-add-div_right {m = J} (pow_pos j) (Q * D * 2) r) ∙ mul-add-mod_self_right (Q * D) 2 (r / J)

-- a bit above k is one of the digits above
high_bit : (x k d : ℕ) → x / 2 ^ (k + suc d) ≡ x / 2 ^ k / 2 / 2 ^ d
high_bit x k d =
    ap (λ (n : ℕ). x / n) (pow-add 2 k (suc d) ∙ ap (λ (n : ℕ). 2 ^ k * n) (pow-succ' 2 d)) ∙ sym (div-div-eq-div-mul x (2 ^ k) (2 * 2 ^ d)) ∙ sym (div-div-eq-div-mul (x / 2 ^ k) 2 (2 ^ d))

bit-lower : (x j d : ℕ) (b : Bool) → put_bit x (j + suc d) b / 2 ^ j % 2 ≡ x / 2 ^ j % 2
bit-lower x j d b =
    let k : ℕ = j + suc d in
    ap (λ (n : ℕ). n / 2 ^ j % 2) (put_bit-digits x k b) ∙ low_bit (above x k b) (x % 2 ^ k) j d
    ∙ sym (ap (λ (n : ℕ). n / 2 ^ j % 2) (sym (div-add-mod' x (2 ^ k))) ∙ low_bit (x / 2 ^ k) (x % 2 ^ k) j d)

bit-higher : (x k d : ℕ) (b : Bool) → put_bit x k b / 2 ^ (k + suc d) ≡ x / 2 ^ (k + suc d)
bit-higher x k d b =
    let Q : ℕ = above x k b in
    let e : put_bit x k b / 2 ^ k ≡ Q = ap (λ (n : ℕ). n / 2 ^ k) (put_bit-digits x k b) ∙ digits_div Q {m = 2 ^ k} {r = x % 2 ^ k} (mod-lt x (pow_pos k)) in
    let f : put_bit x k b / 2 ^ k / 2 ≡ x / 2 ^ k / 2 = ap (λ (n : ℕ). n / 2) e ∙ (let h : Q / 2 ≡ x / 2 ^ k / 2 = omega (arith, bit_le b) in h) in
    high_bit (put_bit x k b) k d ∙ ap (λ (n : ℕ). n / 2 ^ d) f ∙ sym (high_bit x k d)

pub bit_of-put_bit-other : (x k : ℕ) (b : Bool) (j : ℕ) → j ≢ k → bit_of (put_bit x k b) j ≡ bit_of x j
unfolding bit_of
bit_of-put_bit-other x k b j ne =
    ⊎_elim
    (λ l. let d : ℕ = k - j - 1 in let q : j + suc d ≡ k = omega arith in
    subst (λ (k : ℕ). eqb (put_bit x k b / 2 ^ j % 2) 1 ≡ eqb (x / 2 ^ j % 2) 1) q (ap (λ (n : ℕ). eqb n 1) (bit-lower x j d b)))
    (λ g. let d : ℕ = j - k - 1 in let q : k + suc d ≡ j = omega arith in
    subst (λ (j : ℕ). eqb (put_bit x k b / 2 ^ j % 2) 1 ≡ eqb (x / 2 ^ j % 2) 1) q (ap (λ (n : ℕ). eqb (n % 2) 1) (bit-higher x k d b)))
    (lt-or-le j k)

-- a number of n bits stays one
pub put_bit-below : (n x k : ℕ) (b : Bool) → k < n → x < 2 ^ n → put_bit x k b < 2 ^ n
put_bit-below n x k b l h =
    let d : ℕ = n - k - 1 in
    let q : suc d + k ≡ n = omega arith in
    let y : x < 2 ^ (suc d + k) = subst (λ (m : ℕ). x < 2 ^ m) (sym q) h in
    let z : x / 2 ^ k < 2 ^ suc d = shr_lt (suc d) k y in
    let w : above x k b < 2 ^ suc d = omega (arith, bit_le b, pow-succ' 2 d) in
    subst (λ (m : ℕ). put_bit x k b < 2 ^ m) q
    (rw (put_bit-digits x k b, pow-add 2 (suc d) k) (digits_lt w (mod-lt x (pow_pos k))))

-- ---- the maps
module _ (m : List ℕ) (i : ℕ) (b : Bool) (inside : i / 8 < length m) where
  pub length-with_bit : length (with_bit m i b) ≡ length m
  unfolding with_bit
  length-with_bit = length-set m (i / 8) (put_bit (get_or m (i / 8) 0) (i % 8) b)

  own-byte : get_or (with_bit m i b) (i / 8) 0 ≡ put_bit (get_or m (i / 8) 0) (i % 8) b
  unfolding with_bit
  own-byte = get_or-set_same m (i / 8) (put_bit (get_or m (i / 8) 0) (i % 8) b) 0 inside

  -- only the bit's own byte changes
  pub get_or-with_bit-other : (j : ℕ) → j ≢ i / 8 → get_or (with_bit m i b) j 0 ≡ get_or m j 0
  unfolding with_bit
  get_or-with_bit-other j ne = get_or-set_other m (i / 8) j (put_bit (get_or m (i / 8) 0) (i % 8) b) 0 ne

  -- and in it only the bit
  pub bit_at-with_bit-same : bit_at (with_bit m i b) i ≡ b
  unfolding bit_at
  bit_at-with_bit-same = ap (λ (x : ℕ). bit_of x (i % 8)) own-byte ∙ bit_of-put_bit-same (get_or m (i / 8) 0) (i % 8) b

  pub bit_at-with_bit-other : (j : ℕ) → j ≢ i → bit_at (with_bit m i b) j ≡ bit_at m j
  unfolding bit_at
  bit_at-with_bit-other j ne =
      elim (ℕ_discrete (j / 8) (i / 8)) [
        | yes e ↦
            ap (λ (k : ℕ). bit_of (get_or (with_bit m i b) k 0) (j % 8)) e ∙ ap (λ (x : ℕ). bit_of x (j % 8)) own-byte
            ∙ bit_of-put_bit-other (get_or m (i / 8) 0) (i % 8) b (j % 8) (omega arith) ∙ ap (λ (k : ℕ). bit_of (get_or m k 0) (j % 8)) (sym e)
        | no q ↦ ap (λ (x : ℕ). bit_of x (j % 8)) (get_or-with_bit-other (j / 8) q)
      ]

  pub with_bit-bytes : Bytes m → Bytes (with_bit m i b)
  with_bit-bytes h j =
      elim (ℕ_discrete j (i / 8)) [
        | yes e ↦ rw (e, own-byte) (put_bit-below 8 (get_or m (i / 8) 0) (i % 8) b (omega arith) (h (i / 8)))
        | no q ↦ rw (get_or-with_bit-other j q) (h j)
      ]

  -- the count rises or falls by the bit that changes
  pub set_bits-with_bit : (n : ℕ) → i < n → set_bits (with_bit m i b) n + bit (bit_at m i) ≡ set_bits m n + bit b
  unfolding set_bits
  set_bits-with_bit n l =
      count_to-change (bit_at m) (bit_at (with_bit m i b)) n i l (λ j ne. sym (bit_at-with_bit-other j ne)) ∙ ap (λ (c : Bool). count_to (bit_at m) n + bit c) bit_at-with_bit-same

-- bit k of byte j
pub bit_at-byte : (m : List ℕ) (j k : ℕ) → k < 8 → bit_at m (8 * j + k) ≡ bit_of (get_or m j 0) k
unfolding bit_at
bit_at-byte m j k l = ap₂ (λ (a b : ℕ). bit_of (get_or m a 0) b) (let e : (8 * j + k) / 8 ≡ j = omega arith in e) (let e : (8 * j + k) % 8 ≡ k = omega arith in e)

pub set_bits-le : (m : List ℕ) (n : ℕ) → set_bits m n ≤ n
unfolding set_bits
set_bits-le m n = count_to-le (bit_at m) n

-- one more bit counted
pub set_bits-more : (m : List ℕ) (n : ℕ) → set_bits m (n + 1) ≡ set_bits m n + bit (bit_at m n)
unfolding set_bits
set_bits-more m n = count_to-more (bit_at m) n

-- ---- the search over groups, bytes and bits

-- bit k of byte j of group g
pub bit_at-place : (m : List ℕ) (g j k : ℕ) → k < 8 → bit_at m (1024 * g + 8 * j + k) ≡ bit_of (get_or m (128 * g + j) 0) k
bit_at-place m g j k l = ap (bit_at m) (let e : 1024 * g + 8 * j + k ≡ 8 * (128 * g + j) + k = omega arith in e) ∙ bit_at-byte m (128 * g + j) k l

-- no bit below n is set
abbrev pub Clear : List ℕ → ℕ → Type 0
Clear m n = (j : ℕ) → j < n → bit_at m j ≡ false

pub clear-upto : (m : List ℕ) (a b : ℕ) → b ≤ a → Clear m a → Clear m b
clear-upto m a b h p j l = p j (omega arith)

pub clear-more : (m : List ℕ) (g j k : ℕ) → k < 8 → bit_of (get_or m (128 * g + j) 0) k ≡ false → Clear m (1024 * g + 8 * j + k) → Clear m (1024 * g + 8 * j + (k + 1))
clear-more m g j k l e p i h =
    ⊎_elim
    (λ b. p i b)
    (λ (a : 1024 * g + 8 * j + k ≤ i). ap (bit_at m) (let q : i ≡ 1024 * g + 8 * j + k = omega arith in q) ∙ bit_at-place m g j k l ∙ e)
    (lt-or-le i (1024 * g + 8 * j + k))

pub set_bits-none : (m : List ℕ) → set_bits m 0 ≡ 0
unfolding set_bits
set_bits-none m = count_to-none (bit_at m) 0 (λ j l. absurd (omega arith))

-- ---- as the code has it: p is the bit's weight, old and new are the bit before and after

pub record Change (x p old new : ℕ) (r : ℕ) : Type 0 where
  pub old-fits : old * p < 256
  pub old-there : old * p ≤ x
  pub new-fits : new * p < 256
  pub is : x - old * p + new * p ≡ r
  pub fits : x - old * p + new * p < 256

pub change : (x k p old new : ℕ) (b : Bool) → k < 8 → x < 256 → p ≡ 1 * 2 ^ k % 256 → old ≡ bit (bit_of x k) → new ≡ bit b → Change x p old new (put_bit x k b)
unfolding put_bit
change x k p old new b l h e f g =
    let w : 2 ^ k < 256 = pow-lt {i = k} {j = 8} l in
    let q : p ≡ 2 ^ k = e ∙ ap (λ (n : ℕ). n % 256) (one-mul (2 ^ k)) ∙ mod-eq_of_lt w in
    let a : old * p ≡ bit (bit_of x k) * 2 ^ k = ap₂ (λ (m n : ℕ). m * n) f q in
    let c : new * p ≡ bit b * 2 ^ k = ap₂ (λ (m n : ℕ). m * n) g q in
    let s : bit b * 2 ^ k ≤ 1 * 2 ^ k = mul-le-mul_right (2 ^ k) (bit_le b) in
    let t : x - old * p + new * p ≡ x - bit (bit_of x k) * 2 ^ k + bit b * 2 ^ k = ap₂ (λ (m n : ℕ). x - m + n) a c in
    record {
      old-fits = omega (arith, bit_below x k);
      old-there = omega (arith, bit_below x k);
      new-fits = omega (arith, one-mul (2 ^ k));
      is = t;
      fits = subst (λ (n : ℕ). n < 256) (sym t) (put_bit-below 8 x k b l h);
    }
